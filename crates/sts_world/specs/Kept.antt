-- Counters that save walks over all tasks: the subtasks of each scope by birth number, how many of
-- them live, and how many tasks and scopes count against the limits (this project's own).
use Rattle.std.specs.Prelude.{◌≡◌, ℕ, ◌+◌, ◌-◌, ◌<◌, ◌≤◌, List, [], ◌∷◌, ◌++◌, length, count_by}
use Rattle.std.specs.Prelude.{Bool, true, false, Option, Some, None, ◌&&◌, not, if◌then◌else◌}
use Rattle.std.specs.Prelude.{slice_index_or}
use Rattle.sts_code.specs.declared.instr.Joiner.TheVariants.{AwaitAll}
use Rattle.sts_code.specs.declared.limits.TheConstants.{MAX_STANDING}
use Rattle.sts_joiners.specs.Tallied.{Tallied, tallied, ends_told}
use Rattle.sts_model.specs.Living.{is_in}
use Rattle.sts_world.specs.Lines.{Line, Lines}

-- for one scope: the birth numbers of its subtasks in fork order, and how many of them live
pub record Family : Type 0 where
  pub births : List ℕ
  pub living : ℕ

-- the numbers, from n on, of the tasks of scope s
abbrev pub births_from : ℕ → ℕ → List Line → List ℕ
births_from s n [] = []
births_from s n (x ∷ xs) =
    if is_in s x.scope then n ∷ births_from s (n + 1) xs else births_from s (n + 1) xs

abbrev pub births : ℕ → List Line → List ℕ
births s tasks = births_from s 0 tasks

-- a living task of the scope s
abbrev pub lives_in : ℕ → Line → Bool
lives_in s x = is_in s x.scope && x.lives

abbrev pub family_of : ℕ → List Line → Family
family_of s tasks = record { births = births s tasks; living = count_by (lives_in s) tasks }

-- that of a scope without subtasks
abbrev pub no_family : Family
no_family = record { births = []; living = 0 }

-- one more subtask
abbrev pub with_child : Family → ℕ → Bool → Family
with_child f t lives =
    record { births = f.births ++ t ∷ []; living = f.living + (if lives then 1 else 0) }

-- one living subtask less
abbrev pub with_death : Family → Family
with_death f = record f { living = f.living - 1 }

-- a task counts until its scope is closed
abbrev pub stands : List Bool → Option ℕ → Bool
stands closed None = true
stands closed (Some s) = not (slice_index_or closed s true)

abbrev pub standing_tasks : Lines → ℕ
standing_tasks l = count_by (λ (x : Line). stands l.closed x.scope) l.tasks

abbrev pub standing_scopes : Lines → ℕ
standing_scopes l = count_by not l.closed

-- the values that are read if no such task or scope was born
abbrev pub no_line : Line
no_line = record { scope = None; lives = false }

abbrev pub no_tally : Tallied
no_tally = tallied AwaitAll []

-- how many subtasks the scope s has
abbrev pub count_in : ℕ → List Line → ℕ
count_in s tasks = count_by (λ (x : Line). is_in s x.scope) tasks

-- The counters are what a walk would find. The root is in no scope. No joiner was told of a living
-- subtask. No scope has more subtasks than the limit.
pub record IsKept (l : Lines) (kept : List Family) (tallies_kept : List Tallied)
    (tasks_kept scopes_kept : ℕ) : Type 0 where
  pub as_many : length kept ≡ length l.closed
  pub families : (s : ℕ) → slice_index_or kept s no_family ≡ family_of s l.tasks
  pub tallies : tallies_kept ≡ l.tallies
  pub tasks : tasks_kept ≡ standing_tasks l
  pub scopes : scopes_kept ≡ standing_scopes l
  pub some : 0 < length l.tasks
  pub root : (slice_index_or l.tasks 0 no_line).scope ≡ None
  pub told : (s : ℕ)
      → ends_told (slice_index_or l.tallies s no_tally)
      + count_by (lives_in s) l.tasks ≤ count_in s l.tasks
  pub few : (s : ℕ) → count_in s l.tasks < MAX_STANDING
