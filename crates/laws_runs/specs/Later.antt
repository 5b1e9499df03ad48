-- The parts of an earlier state of a run that a later one keeps (this project's own).
use Rattle.std.specs.Prelude.{◌≡◌, ℕ, ◌<◌, ◌≤◌, List, ◌++◌, length, true, false, Some}
use Rattle.sts_model.specs.declared.event.End.{End}
use Rattle.sts_model.specs.declared.event.Phase.{Phase}
use Rattle.sts_model.specs.declared.event.Phase.TheVariants.{Opened, Attempted, Joined, Closing}
use Rattle.sts_model.specs.declared.event.Phase.TheVariants.{Closed}
use Rattle.sts_model.specs.declared.record.Task.{Task}
use Rattle.sts_model.specs.declared.record.Scope.{Scope}
use Rattle.sts_model.specs.declared.record.Completion.{Completion}
use Rattle.sts_model.specs.World.{World, task_at, scope_at}
use Rattle.sts_model.specs.Living.{is_closed}
use Rattle.sts_model.specs.Misuse.{can_join}

-- ---- one task

-- a task keeps what it was born with
pub record IsSameTask (x y : Task) : Type 0 where
  pub started : y.started ≡ x.started
  pub scope : y.scope ≡ x.scope

-- and its end, once it has ended
pub record LaterTask (x y : Task) : Type 0 where
  pub same : IsSameTask x y
  pub outcome : (end : End) → x.outcome ≡ Some end → y.outcome ≡ Some end

-- ---- one scope

-- a scope keeps what it was born with
pub record IsSameScope (x y : Scope) : Type 0 where
  pub owner : y.owner ≡ x.owner
  pub joiner : y.joiner ≡ x.joiner
  pub timed : y.timed ≡ x.timed
  pub environment : y.environment ≡ x.environment

-- once it is closed, cancelled or expired, it remains so
pub record KeepsMarks (x y : Scope) : Type 0 where
  pub closed : is_closed x.phase ≡ true → is_closed y.phase ≡ true
  pub cancelled : x.cancelled ≡ true → y.cancelled ≡ true
  pub expired : x.expired ≡ true → y.expired ≡ true

-- how far a scope is
abbrev pub stage : Phase → ℕ
stage Opened = 0
stage Attempted = 1
stage Joined = 2
stage Closing = 3
stage Closed = 4

-- it never goes back to an earlier phase; once `join` had an outcome or the close has begun, it
-- can't expire any more
pub record MovesOn (x y : Scope) : Type 0 where
  pub forward : stage x.phase ≤ stage y.phase
  pub timely : can_join x.phase ≡ false → y.expired ≡ x.expired

-- completions only grow: the earlier ones are the first of the later ones; a cancelled scope gets
-- no more
pub record Completes (x y : Scope) : Type 0 where
  pub grow : (more : List Completion) × (y.completions ≡ x.completions ++ more)
  pub stop : x.cancelled ≡ true → y.completions ≡ x.completions

pub record LaterScope (x y : Scope) : Type 0 where
  pub same : IsSameScope x y
  pub marks : KeepsMarks x y
  pub moves : MovesOn x y
  pub completions : Completes x y

-- ---- all of them

-- no task that is born into a cancelled scope is ever started
abbrev pub NothingStarts : World → World → Type 0
NothingStarts w v =
    (u s : ℕ) → length w.tasks ≤ u → (scope_at w s).cancelled ≡ true → (task_at v u).scope ≡ Some s
    → (task_at v u).started ≡ false

-- the tasks and scopes of w are those of v at an earlier time
pub record Later (w v : World) : Type 0 where
  pub tasks : length w.tasks ≤ length v.tasks
  pub scopes : length w.scopes ≤ length v.scopes
  pub task : (t : ℕ) → t < length w.tasks → LaterTask (task_at w t) (task_at v t)
  pub scope : (s : ℕ) → s < length w.scopes → LaterScope (scope_at w s) (scope_at v s)
  pub fresh : NothingStarts w v
