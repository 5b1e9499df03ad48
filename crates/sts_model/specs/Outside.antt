-- What comes from outside: interrupts and expiries.
-- Restates `Thread.interrupt` and the timeout of `StructuredTaskScope.Configuration.withTimeout`.
-- Two points are this project's own: an expiry is an event that is handed in, and it also marks a
-- scope that is cancelled already.
use Rattle.std.specs.Prelude.{ℕ, Bool, true, ◌&&◌, not, if◌then◌else◌}
use Rattle.sts_model.specs.declared.record.Scope.{Scope}
use Rattle.sts_model.specs.World.{World, task_at, scope_at, with_task, with_scope}
use Rattle.sts_model.specs.Living.{lives}
use Rattle.sts_model.specs.Cancelling.{cancel}
use Rattle.sts_model.specs.Misuse.{can_join}

-- sets the flag of a living task
abbrev pub interrupt : World → ℕ → World
interrupt w t =
    if lives (task_at w t) then with_task w t (record (task_at w t) { flag = true }) else w

-- may this scope expire now? A timed scope may until its `join` has an outcome other than
-- interrupted, or its close begins
abbrev pub can_expire : Scope → Bool
can_expire scope = scope.timed && not scope.expired && can_join scope.phase

-- marks the scope and cancels it
abbrev pub expire : World → ℕ → World
expire w s =
    if can_expire (scope_at w s)
    then cancel (with_scope w s (record (scope_at w s) { expired = true })) s else w
