-- Laws for every state of every run.
-- Two of them restate "Description" of JEP 505: no subtask of a closed scope lives, and a scope
-- that isn't closed has a living owner. (The lifetime of subtasks and scopes is confined to the
-- block that opened the scope.) The rest is this project's own.
use Rattle.std.specs.Prelude.{◌≡◌, ℕ, ◌<◌, ◌≤◌, true, false, Some, count_by, length, ◌==◌}
use Rattle.std.specs.List.{list_any}
use Rattle.sts_code.specs.Program.{Program}
use Rattle.sts_model.specs.declared.event.End.{End}
use Rattle.sts_model.specs.declared.record.Completion.{Completion}
use Rattle.sts_model.specs.World.{World, task_at, scope_at}
use Rattle.laws_runs.specs.Runs.{Ever}
use Rattle.sts_model.specs.Living.{lives, is_closed, completion_of}
use Rattle.sts_model.specs.Misuse.{is_entry_of}
use Rattle.sts_model.specs.Waiting.{can_step}

-- the completions of a scope are ends of its subtasks, each at most once; while the scope isn't
-- cancelled, they are those of all that have ended
pub record IsTold (w : World) (s : ℕ) : Type 0 where
  pub ended : (u : ℕ) (end : End) → completion_of (scope_at w s).completions u ≡ Some end
      → (task_at w u).outcome ≡ Some end
  pub subtask : (u : ℕ) (end : End) → completion_of (scope_at w s).completions u ≡ Some end
      → (task_at w u).scope ≡ Some s
  pub once : (u : ℕ) → count_by (λ (c : Completion). c.task == u) (scope_at w s).completions ≤ 1
  pub complete : (scope_at w s).cancelled ≡ false → (u : ℕ) (end : End)
      → (task_at w u).scope ≡ Some s → (task_at w u).outcome ≡ Some end
      → completion_of (scope_at w s).completions u ≡ Some end

abbrev pub CompletionsAreEnds : Type 0
CompletionsAreEnds = Ever (λ p w. (s : ℕ) → IsTold w s)

-- no subtask of a closed scope lives
abbrev pub ClosedIsEmpty : Type 0
ClosedIsEmpty =
    Ever (λ p w. (s u : ℕ) → is_closed (scope_at w s).phase ≡ true → (task_at w u).scope ≡ Some s
    → lives (task_at w u) ≡ false)

-- if the root has ended, no task lives
abbrev pub RootEndsLast : Type 0
RootEndsLast =
    Ever (λ p w. (end : End) (u : ℕ) → (task_at w 0).outcome ≡ Some end
    → lives (task_at w u) ≡ false)

-- no task that was born later lives
abbrev pub IsLast : World → ℕ → Type 0
IsLast w t = (u : ℕ) → t < u → lives (task_at w u) ≡ false

-- a living task can step if no living task was born after it; while the root lives there is such a
-- task
pub record GoesOn (p : Program) (w : World) : Type 0 where
  pub last : (t : ℕ) → lives (task_at w t) ≡ true → IsLast w t → can_step p w t ≡ true
  pub some : lives (task_at w 0) ≡ true → (t : ℕ) × (can_step p w t ≡ true)

abbrev pub SomeTaskSteps : Type 0
SomeTaskSteps = Ever GoesOn

-- ---- owners

-- a task lives and has the scope in its structure list
pub record IsHeldBy (w : World) (s t : ℕ) : Type 0 where
  pub alive : lives (task_at w t) ≡ true
  pub entry : list_any (is_entry_of s) (task_at w t).frame.entries ≡ true

-- a scope that isn't closed is held by its owner
abbrev pub OwnersHold : Type 0
OwnersHold =
    Ever (λ p w. (s : ℕ) → s < length w.scopes → is_closed (scope_at w s).phase ≡ false
    → IsHeldBy w s (scope_at w s).owner)
