-- Sums over the first open entries along control paths, and the greatest of them (this project's
-- own).
use Rattle.std.proofs.Common.{◌≡◌, ℕ, ◌+◌, ◌-◌, ◌*◌, ◌≤◌, min, List, [], ◌∷◌}
use Rattle.sts_rules.specs.ControlPaths.{GoesTo, Repeats, EndsTurn, Skeleton, Among, Loops, Follows}
use Rattle.sts_budget.specs.Structured.{bound_of}

-- how the sum over the first d entries at a place comes from a sum over the first entries at the
-- place before it
pub record Flows : Type 0 where
  -- how many entries are open at a place
  pub depth : ℕ → ℕ
  -- the number of entries before the instruction at the place, and the amount that it adds
  pub source : ℕ → ℕ → ℕ
  pub added : ℕ → ℕ → ℕ

-- some control path reaches the place with these loops, and the sum over its first d entries is m
pub data Sums (c : Skeleton) (f : Flows) : ℕ → ℕ → Loops → ℕ → Type 0 where
  none : Sums c f 0 0 [] 0
  more : {d pc : ℕ} {loops : Loops} {m : ℕ} {to : ℕ} {after : Loops} → d ≤ f.depth to
      → Sums c f (f.source pc d) pc loops m → Follows c pc loops to after
      → Sums c f d to after (m + f.added pc d)

-- the structure list fits the jumps: the place of an instruction says how many entries are open
-- after it, and a loop closes nothing that was opened before it
pub record FitsEntries (c : Skeleton) (around : ℕ → List ℕ) (f : Flows) : Type 0 where
  pub empty : f.depth 0 ≡ 0
  pub from : (pc to d : ℕ) (places : List ℕ) → c.shape pc ≡ GoesTo places → Among places to
      → d ≤ f.depth to → f.source pc d ≤ f.depth pc
  -- the entries that were open at a loop's head keep their places
  pub kept : (pc to d : ℕ) (places : List ℕ) (p : ℕ) (ps : List ℕ) → c.shape pc ≡ GoesTo places
      → Among places to → d ≤ f.depth to → around pc ≡ p ∷ ps
      → min (f.source pc d) (f.depth p) ≡ min d (f.depth p)
  pub times : (p n d : ℕ) → c.shape p ≡ Repeats n → f.source p d ≡ d
  pub next : (pc d : ℕ) → c.shape pc ≡ EndsTurn → f.source pc d ≡ d
  pub same : (p n : ℕ) → c.shape p ≡ Repeats n → (f.depth (p + 1) ≡ f.depth p)
      × (f.depth (c.mate p) ≡ f.depth p) × (f.depth (c.mate p + 1) ≡ f.depth p)
  -- inside a loop at least the entries of its head are open
  pub deeper : (pc p : ℕ) (ps : List ℕ) → around pc ≡ p ∷ ps → f.depth p ≤ f.depth pc

-- at some point the first entries have a sum of at least v
abbrev pub Stands : Skeleton → Flows → ℕ → Type 0
Stands c f v =
    (d : ℕ)
    × ((pc : ℕ)
    × ((loops : Loops) × ((m : ℕ) × ((d ≤ f.depth pc) × Sums c f d pc loops m × (v ≤ m)))))

-- what one turn of the loop at p adds
abbrev pub gain : Skeleton → Flows → (ℕ → ℕ → ℕ) → ℕ → ℕ → ℕ
gain c f best p d = best (c.mate p) d + f.added (c.mate p) d

-- each open loop is in its last turn
abbrev pub last_turns : List ℕ → Loops
last_turns [] = []
last_turns (p ∷ ps) = (p, 1) ∷ last_turns ps

-- the greatest sum before the current turns of these loops, by the turns that are left
abbrev pub base : Skeleton → Flows → (ℕ → ℕ → ℕ) → Loops → ℕ → ℕ
base c f best [] d = 0
base c f best (l ∷ ls) d =
    base c f best ls (min d (f.depth l.0)) + best l.0 (min d (f.depth l.0)) + f.added l.0
    (min d (f.depth l.0)) + (bound_of (c.shape l.0) - l.1) * gain c f best l.0
    (min d (f.depth l.0))

-- the greatest sum of all open entries at a place
abbrev pub full : Skeleton → Flows → (ℕ → List ℕ) → (ℕ → ℕ → ℕ) → ℕ → ℕ
full c f around best pc = base c f best (last_turns (around pc)) (f.depth pc) + best pc (f.depth pc)

-- the sum that the last turn of the loop at p starts from
abbrev pub turn_base : Skeleton → Flows → (ℕ → List ℕ) → (ℕ → ℕ → ℕ) → ℕ → ℕ
turn_base c f around best p =
    full c f around best p + f.added p (f.depth p) + (bound_of (c.shape p) - 1) * gain c f best p
    (f.depth p)
