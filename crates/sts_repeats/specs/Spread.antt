-- The values that runs stand for (this project's own).
use Rattle.std.specs.Prelude.{◌≡◌, ℕ, ◌+◌, ◌-◌, ◌≤◌, List, [], ◌∷◌, ◌++◌, length, replicate, take, Some, slice_get}
use Rattle.sts_repeats.specs.declared.runs.Run.{Run}

abbrev pub spread : {X : Type 0} → List (Run X) → List X
spread [] = []
spread (run ∷ runs) = run.value ∷ replicate run.more run.value ++ spread runs

-- the value at an index is one of the i-th run, behind `before` equal ones
pub record IsAt {X : Type 0} (runs : List (Run X)) (at i before : ℕ) : Type 0 where
  pub run : Run X
  pub there : slice_get runs i ≡ Some run
  pub few : before ≤ run.more
  pub sum : length (spread (take i runs)) + before ≡ at

-- the values of a run with another one at an index
abbrev pub changed : {X : Type 0} → Run X → ℕ → X → List X
changed run before value = replicate before run.value ++ value ∷ replicate (run.more - before) run.value
