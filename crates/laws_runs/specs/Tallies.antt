-- The answers of `tally` in every state of every run: the numbers of subtasks that are a success,
-- failed and unavailable.
-- Restates `StructuredTaskScope.Subtask.State` (a subtask is a success, failed or unavailable);
-- `tally` is this project's own.
use Rattle.std.specs.Prelude.{◌≡◌, ℕ, ◌+◌, List, length, Bool, Option, is_none, count_by, ◌&&◌}
use Rattle.std.specs.List.{range_with_len}
use Rattle.sts_code.specs.declared.instr.Kind.{Kind}
use Rattle.sts_code.specs.declared.instr.Kind.TheVariants.{S, F, U}
use Rattle.sts_model.specs.declared.event.End.{End}
use Rattle.sts_model.specs.World.{World, task_at}
use Rattle.sts_model.specs.Living.{is_subtask, subtask_count, sub_state}
use Rattle.sts_model.specs.Misuse.{has_succeeded, has_failed}
use Rattle.sts_model.specs.Effect.{tally}
use Rattle.laws_runs.specs.Runs.{Ever}

-- is it the state of this kind?
abbrev pub is_kind : Kind → Option End → Bool
is_kind S state = has_succeeded state
is_kind F state = has_failed state
is_kind U state = is_none state

-- is the task a subtask of s, and in the state of this kind?
abbrev pub is_in_state : World → ℕ → Kind → ℕ → Bool
is_in_state w s kind u = is_subtask s (task_at w u) && is_kind kind (sub_state w u)

-- the birth numbers of all tasks
abbrev pub births : World → List ℕ
births w = range_with_len 0 (length w.tasks)

-- the number of subtasks of s in the state of this kind
abbrev pub number_in : World → ℕ → Kind → ℕ
number_in w s kind = count_by (is_in_state w s kind) (births w)

-- `tally` answers these numbers, and together they are all subtasks
pub record IsTallied (w : World) (s : ℕ) : Type 0 where
  pub each : (kind : Kind) → tally w s kind ≡ number_in w s kind
  pub all : tally w s S + tally w s F + tally w s U ≡ subtask_count w s

abbrev pub TalliesAreCounts : Type 0
TalliesAreCounts = Ever (λ p w. (s : ℕ) → IsTallied w s)
