-- The table of greatest sums that one pass makes (this project's own).
use Rattle.std.proofs.Common.{◌≡◌, ℕ, ◌+◌, ◌*◌, ◌<◌, ◌≤◌, ◌⊎◌, max, List, [], length, get_or}
use Rattle.std.proofs.Common.{slice_set}
use Rattle.sts_rules.specs.ControlPaths.{Shape, GoesTo, Repeats, EndsTurn, Skeleton, Among}
use Rattle.sts_budget.specs.Row.{IsRaised}
use Rattle.sts_budget.specs.Structured.{bound_of}
use Rattle.sts_budget.specs.Sums.{Flows, gain, Stands}

-- x is the greatest of the numbers P, or 0 if there is none
abbrev pub MaxOf : (ℕ → Type 0) → ℕ → Type 0
MaxOf P x = ((m : ℕ) → P m → m ≤ x) × (P x ⊎ ((x ≡ 0) × ((m : ℕ) → P m → ⊥)))

-- the value of a table of rows for a place and d
abbrev pub read : List (List ℕ) → ℕ → ℕ → ℕ
read rows pc d = get_or (get_or rows pc []) d 0

-- the values that the places below k hand on to a place
pub data Handed (c : Skeleton) (f : Flows) (best : ℕ → ℕ → ℕ) (k : ℕ) : ℕ → ℕ → ℕ → Type 0 where
  over_go : (from pc d : ℕ) (places : List ℕ) → from < k → c.shape from ≡ GoesTo places
      → Among places pc → d ≤ f.depth pc
      → Handed c f best k pc d (best from (f.source from d) + f.added from d)
  over_loop : (p n d : ℕ) → c.mate p < k → c.shape p ≡ Repeats n → d ≤ f.depth p
      → Handed c f best k (c.mate p + 1) d (best p d + f.added p d + n * gain c f best p d)

-- the sum that the place k hands on; head is the `times` of the turn that a `next` ends
abbrev pub New : Skeleton → Flows → (ℕ → ℕ) → (ℕ → ℕ → ℕ) → ℕ → Shape → ℕ → ℕ → ℕ → Type 0
New c f head a k (GoesTo places) pc d m = Among places pc × (a k (f.source k d) + f.added k d ≡ m)
New c f head a k EndsTurn pc d m =
    (k + 1 ≡ pc)
    × (a (head k) d + f.added (head k) d + bound_of (c.shape (head k)) * (a k d + f.added k d) ≡ m)
New c f head a k _ pc d m = ⊥

-- the table after the place k has handed on its values
pub record IsSpread (c : Skeleton) (f : Flows) (head : ℕ → ℕ) (k : ℕ) (before after : List (List ℕ))
    : Type 0 where
  pub long : length after ≡ length before
  pub raised : (pc d m : ℕ) → pc < c.size → d ≤ f.depth pc
      → New c f head (read before) k (c.shape k) pc d m → read after pc d ≡ max (read before pc d) m
  pub same : (pc d : ℕ) → pc < c.size → d ≤ f.depth pc
      → ((m : ℕ) → New c f head (read before) k (c.shape k) pc d m → ⊥)
      → read after pc d ≡ read before pc d

-- the table has the greatest of what the places below k hand on
pub record IsPartial (c : Skeleton) (f : Flows) (k : ℕ) (rows : List (List ℕ)) : Type 0 where
  pub long : length rows ≡ c.size
  pub greatest : (pc d : ℕ) → pc < c.size → d ≤ f.depth pc
      → MaxOf (Handed c f (read rows) k pc d) (read rows pc d)

-- the row after the place pc is raised to the first n sums of pc, each with `own` more
pub record IsCarried (n pc own : ℕ) (before after : List (List ℕ)) : Type 0 where
  pub long : length after ≡ length before
  pub raised : (d : ℕ) → d < n
      → read after (pc + 1) d ≡ max (read before (pc + 1) d) (read before pc d + own)
  pub same : (q d : ℕ) → (q ≡ pc + 1 → ⊥) → read after q d ≡ read before q d

-- the row at a place is raised to the values
abbrev pub IsRaisedAt : List ℕ → (low most to : ℕ) → (before after : List (List ℕ)) → Type 0
IsRaisedAt values low most to before after =
    (row : List ℕ)
    × ((after ≡ slice_set before to row) × IsRaised values low most (get_or before to []) row)

-- the rows at these places are raised to the values, as far as entries are open there
pub record IsSent (values : List ℕ) (low : ℕ → ℕ) (most : ℕ) (places : List ℕ)
    (before after : List (List ℕ)) : Type 0 where
  pub long : length after ≡ length before
  pub raised : (pc d : ℕ) → Among places pc → d ≤ low pc
      → read after pc d ≡ max (read before pc d) (get_or values d 0)
  pub same : (pc d : ℕ) → (Among places pc → ⊥) → read after pc d ≡ read before pc d
  pub small : (pc d : ℕ) → Among places pc → d ≤ low pc → get_or values d 0 ≤ most

-- at one of these places a value passes the limit
abbrev pub IsStopped : List ℕ → (ℕ → ℕ) → ℕ → List ℕ → Type 0
IsStopped values low most places =
    (pc : ℕ) × ((d : ℕ) × (Among places pc × (d ≤ low pc) × (most < get_or values d 0)))

-- a place hands on more than the limit
abbrev pub HandsTooMuch : Skeleton → Flows → (ℕ → ℕ) → ℕ → (ℕ → ℕ → ℕ) → ℕ → Type 0
HandsTooMuch c f head k best most =
    (pc : ℕ)
    × ((d : ℕ) × ((m : ℕ)
    × ((pc < c.size) × (d ≤ f.depth pc) × New c f head best k (c.shape k) pc d m × (most < m))))

-- at some point the sum is over the limit
abbrev pub Passes : Skeleton → Flows → ℕ → Type 0
Passes c f most = (v : ℕ) × (Stands c f v × (most < v))
