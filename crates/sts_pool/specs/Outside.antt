-- Events from outside of the tasks (this project's own).
use Rattle.std.specs.Prelude.{◌≡◌, ◌⊎◌, ℕ, List, [], ◌∷◌, ◌++◌, length, count_by, false, not}
use Rattle.std.specs.Prelude.{Option, Some, None}
use Rattle.sts_code.specs.declared.limits.TheConstants.{MAX_OUTSIDE}
use Rattle.sts_model.specs.declared.event.Event.{Event}
use Rattle.sts_model.specs.declared.event.Event.TheVariants.{Step}
use Rattle.sts_model.specs.Run.{is_step}

-- an interrupt or an expiry
abbrev pub IsOutside : Event → Type 0
IsOutside e = is_step e ≡ false

-- the number of interrupts and expiries among the events
abbrev pub outside_entries : List Event → ℕ
outside_entries events = count_by (λ e. not (is_step e)) events

-- An outside was asked from time to time while a journal grew. It was in the state `first` then,
-- and is in the last state now. It gave the interrupts and expiries of the journal, in order, and
-- nothing else. It gave each when the journal had the entries before it.
pub data Gave {O : Type 0} (gives : O → ℕ → Option Event → O → Type 0) (first : O)
    : List Event → O → Type 0 where
  opening : Gave gives first [] first
  step : (journal : List Event) (now : O) (t : ℕ) → Gave gives first journal now
      → Gave gives first (journal ++ Step t ∷ []) now
  nothing : (journal : List Event) (now later : O) → Gave gives first journal now
      → gives now (length journal) None later → Gave gives first journal later
  event : (journal : List Event) (now later : O) (e : Event) → Gave gives first journal now
      → IsOutside e → gives now (length journal) (Some e) later
      → Gave gives first (journal ++ e ∷ []) later

-- The outside gave the interrupts and expiries of the journal. At the end of the journal it has no
-- event to give, or the journal has the limit of them.
pub record IsGiven {O : Type 0} (gives : O → ℕ → Option Event → O → Type 0) (outside : O)
    (journal : List Event) : Type 0 where
  pub left : O
  pub gave : Gave gives outside journal left
  pub spent : ((later : O) × gives left (length journal) None later)
      ⊎ (outside_entries journal ≡ MAX_OUTSIDE)
