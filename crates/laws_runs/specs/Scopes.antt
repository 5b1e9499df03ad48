-- Why a scope is cancelled, which tasks of it have ended, and which task has entered it, in every
-- state of every run. Restates `join` of `StructuredTaskScope`, which waits until all subtasks have
-- completed or the scope is cancelled. The rest is this project's own.
use Rattle.std.specs.Prelude.{◌≡◌, ℕ, ◌<◌, ◌≤◌, count_by, [], length, Bool, true, false, Some, None}
use Rattle.std.specs.List.{list_any}
use Rattle.sts_model.specs.declared.event.Phase.{Phase}
use Rattle.sts_model.specs.declared.event.Phase.TheVariants.{Closing, Closed}
use Rattle.sts_model.specs.declared.record.Scope.{Scope}
use Rattle.sts_model.specs.World.{World, task_at, scope_at}
use Rattle.sts_model.specs.Joining.{cancels}
use Rattle.sts_model.specs.Living.{lives, is_closed, ends, sub_state}
use Rattle.sts_model.specs.Misuse.{is_joined, is_entry_of}
use Rattle.laws_runs.specs.Runs.{Ever}

-- has its close begun?
abbrev pub is_leaving : Phase → Bool
is_leaving Closing = true
is_leaving Closed = true
is_leaving _ = false

-- does its joiner ask for a cancel, by the ends so far?
abbrev pub is_asked : Scope → Bool
is_asked scope = cancels scope.joiner (ends scope)

-- A scope that was born is cancelled only by one of three causes: an end after which its joiner
-- asks for it, its expiry, or its close. A joiner that asks for it without any end (`until failed
-- 0`) gets it at the first end.
pub record HasCause (scope : Scope) : Type 0 where
  pub asked : scope.cancelled ≡ false → is_asked scope ≡ true → scope.completions ≡ []
  pub expired : scope.expired ≡ true → scope.cancelled ≡ true
  pub leaving : is_leaving scope.phase ≡ true → scope.cancelled ≡ true
  pub cause : scope.cancelled ≡ true → scope.expired ≡ false → is_leaving scope.phase ≡ false
      → is_asked scope ≡ true

abbrev pub CancelledHasCause : Type 0
CancelledHasCause = Ever (λ p w. (s : ℕ) → s < length w.scopes → HasCause (scope_at w s))

-- if a subtask doesn't live and is unavailable, its scope is cancelled
abbrev pub LeftOutIsCancelled : Type 0
LeftOutIsCancelled =
    Ever (λ p w. (s u : ℕ) → (task_at w u).scope ≡ Some s → lives (task_at w u) ≡ false
    → sub_state w u ≡ None → (scope_at w s).cancelled ≡ true)

-- if `join` had an outcome, the scope is cancelled or no subtask of it lives
abbrev pub JoinedIsSettled : Type 0
JoinedIsSettled =
    Ever (λ p w. (s u : ℕ) → is_joined (scope_at w s).phase ≡ true
    → (scope_at w s).cancelled ≡ false → (task_at w u).scope ≡ Some s
    → lives (task_at w u) ≡ false)

-- a scope in the structure list of a living task belongs to that task, isn't closed, and occurs
-- once
pub record IsEntered (w : World) (t s : ℕ) : Type 0 where
  pub born : s < length w.scopes
  pub owner : (scope_at w s).owner ≡ t
  pub still : is_closed (scope_at w s).phase ≡ false
  pub once : count_by (is_entry_of s) (task_at w t).frame.entries ≤ 1

abbrev pub EntriesAreOpen : Type 0
EntriesAreOpen =
    Ever (λ p w. (t s : ℕ) → lives (task_at w t) ≡ true
    → list_any (is_entry_of s) (task_at w t).frame.entries ≡ true → IsEntered w t s)
