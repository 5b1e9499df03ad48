-- The places that lead on to each place (this project's own).
use Rattle.std.specs.Prelude.{◌≡◌, ℕ, ◌<◌, List, [], length, get_or, ◌↔◌}
use Rattle.sts_rules.specs.ControlPaths.{Among}
use Rattle.look_refusal.specs.declared.search.Search.{Search}
use Rattle.look_refusal.specs.Search.{LeadsOn}

-- these places, and no others, lead on to this one
abbrev pub AreLeads : Search → ℕ → List ℕ → Type 0
AreLeads s to places = (from : ℕ) → Among places from ↔ LeadsOn s from to

-- each place has those that lead on to it
pub record AreAllLeads (s : Search) (lists : List (List ℕ)) : Type 0 where
  pub long : length lists ≡ length s.code.now
  pub leads : (to : ℕ) → AreLeads s to (get_or lists to [])

-- Each place has those below `from` that lead on to it. These places have `from` too. No place has
-- one that doesn't lead on to it.
pub record AreNoted (s : Search) (from : ℕ) (places : List ℕ) (lists : List (List ℕ)) : Type 0 where
  pub long : length lists ≡ length s.code.now
  pub only : (to q : ℕ) → Among (get_or lists to []) q → LeadsOn s q to
  pub earlier : (to q : ℕ) → q < from → LeadsOn s q to → Among (get_or lists to []) q
  pub here : (to : ℕ) → Among places to → Among (get_or lists to []) from
