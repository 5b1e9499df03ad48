-- A stretch of a control path, and the amounts that it adds (this project's own).
use Rattle.std.specs.Prelude.{◌≡◌, ℕ, ◌+◌, ◌-◌, ◌*◌, ◌≤◌, min, List, [], ◌∷◌, length, get_or}
use Rattle.sts_rules.specs.Around.{around}
use Rattle.sts_rules.specs.ControlPaths.{Skeleton, Loops}
use Rattle.sts_budget.specs.Sums.{Flows, base, last_turns}
use Rattle.look_refusal.specs.declared.search.CostLoop.{CostLoop}
use Rattle.look_refusal.specs.declared.search.Search.{Search}
use Rattle.look_refusal.specs.declared.search.Spot.{Spot}
use Rattle.look_refusal.specs.declared.shares.Shares.{Shares}
use Rattle.look_refusal.specs.declared.trail.Trail.{Trail}
use Rattle.look_refusal.specs.Adding.{Adds, Steps, share, total, at_place}
use Rattle.look_refusal.specs.Search.{paths, flow}
use Rattle.look_refusal.specs.Trail.{sum_in, looped}

-- the amount at each place, and their sum
pub record Amounts : Type 0 where
  pub at : ℕ → ℕ
  pub all : ℕ

-- what more steps add
pub record Grows (before after : Steps) (a : Amounts) : Type 0 where
  pub at : (x : ℕ) → share after x ≡ share before x + a.at x
  pub all : total after ≡ total before + a.all

-- each control path that reaches one place goes on to another, and adds these amounts on the way
abbrev pub Extends : Skeleton → Flows → ℕ → ℕ → Loops → ℕ → ℕ → Loops → Amounts → Type 0
Extends c f d pc loops e to after a =
    (steps : Steps) → Adds c f d pc loops steps
    → (more : Steps) × (Adds c f e to after more × Grows steps more a)

-- in the same turn of the loops around, whatever they are
abbrev pub IsStretch : Skeleton → Flows → Spot → Spot → Amounts → Type 0
IsStretch c f from to a =
    (loops : Loops) → Extends c f from.depth from.place loops to.depth to.place loops a

-- these amounts were added `times` times
pub record IsRaised (times : ℕ) (a : Amounts) (before after : Shares) : Type 0 where
  pub long : length after.places.items ≡ length before.places.items
  pub at : (x : ℕ) → get_or after.places.items x 0 ≡ get_or before.places.items x 0 + times * a.at x
  pub all : after.total ≡ before.total + times * a.all

-- the amounts of one step
abbrev pub one : ℕ → ℕ → Amounts
one pc amount = record { at = at_place pc amount; all = amount }

-- one step back, with its amount added `times` times
pub record IsStepBack (f : Flows) (from : ℕ) (to : Spot) (times : ℕ) (before after : Shares)
    (at : Spot) : Type 0 where
  pub place : at.place ≡ from
  pub depth : at.depth ≡ f.source from to.depth
  pub raised : IsRaised times (one from (f.added from to.depth)) before after

-- a stretch between two places, with its amounts added `times` times
abbrev pub IsWalked : Skeleton → Flows → ℕ → Spot → Spot → Shares → Shares → Type 0
IsWalked c f times at to before after =
    (a : Amounts) × (IsStretch c f at to a × IsRaised times a before after)

-- the stretch from a `times` to the beginning of the last turn of its loop
abbrev pub IsWalkedOut : Skeleton → Flows → Spot → Spot → Shares → Shares → Type 0
IsWalkedOut c f at turn before after =
    (a : Amounts)
    × (((loops : Loops)
    → Extends c f at.depth at.place loops turn.depth turn.place ((at.place, 1) ∷ loops) a)
    × IsRaised 1 a before after)

-- the stretch from the beginning of the function, with some loops open at the end
abbrev pub IsWholeWalk : Skeleton → Flows → Spot → Shares → Shares → Type 0
IsWholeWalk c f to before after =
    (after_loops : Loops)
    × ((a : Amounts)
    × (Extends c f 0 0 [] to.depth to.place after_loops a × IsRaised 1 a before after))

-- no place adds more than all do
abbrev pub AreParts : Shares → Type 0
AreParts s = (x : ℕ) → get_or s.places.items x 0 ≤ s.total

-- a spot is at the beginning of the function, or of a turn of the innermost loop around a second
-- spot
pub record IsBegin (s : Search) (to at : Spot) : Type 0 where
  pub outside : around s.code.now to.place ≡ [] → at ≡ record { place = 0; depth = 0 }
  pub inside : (p : ℕ) (ps : List ℕ) → around s.code.now to.place ≡ p ∷ ps
      → at ≡ record { place = p + 1; depth = min to.depth ((flow s).depth p) }

-- a stretch that was walked back to its beginning, and adds the amount of the trail
pub record IsWalkedBack (s : Search) (t : Trail) (times : ℕ) (at to : Spot) (before after : Shares)
    : Type 0 where
  pub begin : IsBegin s to at
  pub walked : IsWalked (paths s) (flow s) times at to before after
  pub total : after.total ≡ before.total + times * sum_in t to.place to.depth
  pub parts : AreParts after

-- the turns of a loop before the last one, and its `times`, which were walked back
pub record IsWalkedBackOut (s : Search) (t : Trail) (l : CostLoop) (turn at : Spot)
    (before after : Shares) : Type 0 where
  pub place : at.place ≡ l.head
  pub depth : at.depth ≡ turn.depth
  pub walked : IsWalkedOut (paths s) (flow s) at turn before after
  pub total : after.total ≡ looped s (sum_in t) l.head l.end (l.turns - 1) before.total turn.depth
  pub parts : AreParts after

-- the sum at a spot, with each open loop in its last turn
abbrev pub rest_in : Search → Trail → Spot → ℕ
rest_in s t at =
    base (paths s) (flow s) (sum_in t) (last_turns (around s.code.now at.place)) at.depth
    + sum_in t at.place at.depth
