-- The ends that a search lists (this project's own).
use Rattle.std.specs.Prelude.{◌≡◌, ℕ, ◌<◌, List, Bool, true, false, map, slice_index_or}
use Rattle.std.specs.List.{Contains}
use Rattle.sts_plain.specs.declared.misstep.PlainState.{PlainState}
use Rattle.sts_plain.specs.declared.misstep.PlainState.TheVariants as plain
use Rattle.sts_plain.specs.Seen.{shown}
use Rattle.ends_search.specs.Search.{IsWay}
use Rattle.ends_plain.specs.declared.config.Config.{Config}
use Rattle.ends_plain.specs.declared.config.Found.{Found}
use Rattle.ends_plain.specs.declared.config.Setting.{Setting}
use Rattle.ends_plain.specs.Configs.{next, can}
use Rattle.ends_plain.specs.Ends.{is_end, IsEnd}

abbrev pub ends_of : List Found → List PlainState
ends_of found = map (λ (f : Found). f.end) found

abbrev pub is_fault_end : PlainState → Bool
is_fault_end (plain.Fault kind t f pc) = true
is_fault_end _ = false

abbrev pub is_faulty : Found → Bool
is_faulty f = is_fault_end f.end

-- it is an end of the program, and its trace leads to it
abbrev pub IsEndOf : Setting → Found → Type 0
IsEndOf g f = IsEnd g.program g.expiries g.interrupts f.trace f.end

abbrev pub AreEnds : Setting → List Found → Type 0
AreEnds g found = (f : Found) → Contains found f → IsEndOf g f

-- its trace leads from the first state to one that shows the end
pub record IsShownBy (g : Setting) (first : Config) (f : Found) : Type 0 where
  pub config : Config
  pub way : IsWay (next g) (can g) first f.trace config
  pub shows : shown config.position ≡ f.end
  pub ends : is_end f.end ≡ true

abbrev pub AreShown : Setting → Config → List Found → Type 0
AreShown g first found = (f : Found) → Contains found f → IsShownBy g first f

-- each end that one of the first n states shows is among these
abbrev pub HasShown : List Config → ℕ → List PlainState → Type 0
HasShown states n ends =
    (k : ℕ) (d : Config) → k < n → is_end (shown (slice_index_or states k d).position) ≡ true
    → Contains ends (shown (slice_index_or states k d).position)
