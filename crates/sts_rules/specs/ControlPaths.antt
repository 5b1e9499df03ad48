-- Control paths: the ways that a task can take through the code of its function, whatever its
-- operands are (this project's own).
use Rattle.std.specs.Prelude.{◌≡◌, ℕ, suc, ◌+◌, ◌<◌, ◌≤◌, ◌⊎◌, List, [], ◌∷◌}

-- how an instruction goes on
pub data Shape : Type 0 where
  -- at one of these places
  GoesTo : List ℕ → Shape
  -- it opens a loop of up to this many turns
  Repeats : ℕ → Shape
  -- it ends a turn of the innermost loop
  EndsTurn : Shape
  -- it ends the path
  EndsPath : Shape

-- an open entry of the structure list: a scope, by its slot, with the functions of the subtasks
-- that were forked in it, the last one first; or a binding
pub data OpenEntry : Type 0 where
  OpenScope : (slot : ℕ) (subtasks : List ℕ) → OpenEntry
  OpenBinding : OpenEntry

-- what control paths see of a function's code
pub record Skeleton : Type 0 where
  -- the number of places
  pub size : ℕ
  pub shape : ℕ → Shape
  -- the place that ends the turns of the loop which opens at a place
  pub mate : ℕ → ℕ
  -- how many steps the instruction at a place counts
  pub weight : ℕ → ℕ
  -- the open entries after the instruction at a place, the innermost first
  pub entries : ℕ → List OpenEntry → List OpenEntry

abbrev pub Among : List ℕ → ℕ → Type 0
Among [] x = ⊥
Among (y ∷ ys) x = (y ≡ x) ⊎ Among ys x

-- the open loops, the innermost first: the place of each `times`, and the turns left, with the
-- current one
abbrev pub Loops : Type 0
Loops = List (ℕ × ℕ)

-- one step of a control path: branches are free, and each loop makes 0 to n turns
pub data Follows (c : Skeleton) : ℕ → Loops → ℕ → Loops → Type 0 where
  go : (places : List ℕ) {pc to : ℕ} {loops : Loops} → c.shape pc ≡ GoesTo places → Among places to
      → Follows c pc loops to loops
  skip : (n : ℕ) {pc : ℕ} {loops : Loops} → c.shape pc ≡ Repeats n
      → Follows c pc loops (c.mate pc + 1) loops
  enter : (n : ℕ) {pc : ℕ} (turns : ℕ) {loops : Loops} → c.shape pc ≡ Repeats n → 0 < turns
      → turns ≤ n → Follows c pc loops (pc + 1) ((pc, turns) ∷ loops)
  again : {pc : ℕ} (p left : ℕ) {loops : Loops} → c.shape pc ≡ EndsTurn → 0 < left
      → Follows c pc ((p, suc left) ∷ loops) (p + 1) ((p, left) ∷ loops)
  leave : {pc : ℕ} (p : ℕ) {loops : Loops} → c.shape pc ≡ EndsTurn
      → Follows c pc ((p, 1) ∷ loops) (pc + 1) loops

-- a point of a control path: some path reaches this place with these open loops and these open
-- entries, and counts this many steps before it
pub data Comes (c : Skeleton) : ℕ → Loops → ℕ → List OpenEntry → Type 0 where
  start : Comes c 0 [] 0 []
  step : {pc : ℕ} {loops : Loops} {before : ℕ} {entries : List OpenEntry} {to : ℕ} {after : Loops}
      → Comes c pc loops before entries → Follows c pc loops to after
      → Comes c to after (before + c.weight pc) (c.entries pc entries)

-- some whole control path counts m steps
abbrev pub PathCounts : Skeleton → ℕ → Type 0
PathCounts c m =
    (pc : ℕ)
    × ((loops : Loops) × ((before : ℕ) × ((entries : List OpenEntry) ×
    (Comes c pc loops before entries × (c.shape pc ≡ EndsPath) × (before + c.weight pc ≡ m)))))

-- m is the greatest number of steps of a whole control path
abbrev pub IsGreatest : Skeleton → ℕ → Type 0
IsGreatest c m = PathCounts c m × ((other : ℕ) → PathCounts c other → other ≤ m)

-- at some point of some control path the sum of the open entries is m
abbrev pub PointHolds : Skeleton → (List OpenEntry → ℕ) → ℕ → Type 0
PointHolds c sum m =
    (pc : ℕ)
    × ((loops : Loops)
    × ((before : ℕ)
    × ((entries : List OpenEntry) × (Comes c pc loops before entries × (sum entries ≡ m)))))

-- m is the greatest sum at a point of a control path
abbrev pub IsPeak : Skeleton → (List OpenEntry → ℕ) → ℕ → Type 0
IsPeak c sum m = PointHolds c sum m × ((other : ℕ) → PointHolds c sum other → other ≤ m)
