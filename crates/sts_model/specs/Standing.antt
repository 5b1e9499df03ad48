-- The tasks, scopes and bindings that count against the limits: those that can still be asked for
-- (this project's own).
use Rattle.std.specs.Prelude.{ℕ, ◌+◌, length, count_by, fold, Bool, true, Option, Some, None, not}
use Rattle.sts_model.specs.declared.record.Task.{Task}
use Rattle.sts_model.specs.declared.record.Scope.{Scope}
use Rattle.sts_model.specs.World.{World, scope_at}
use Rattle.sts_model.specs.Living.{is_closed}
use Rattle.sts_model.specs.Environment.{own_bindings}

-- a scope counts until it is closed
abbrev pub is_standing_scope : Scope → Bool
is_standing_scope scope = not (is_closed scope.phase)

-- a task counts until its scope is closed; the root always counts
abbrev pub stands_in : World → Option ℕ → Bool
stands_in w None = true
stands_in w (Some s) = is_standing_scope (scope_at w s)

abbrev pub is_standing_task : World → Task → Bool
is_standing_task w task = stands_in w task.scope

abbrev pub standing_tasks : World → ℕ
standing_tasks w = count_by (is_standing_task w) w.tasks

abbrev pub standing_scopes : World → ℕ
standing_scopes w = count_by is_standing_scope w.scopes

-- a binding counts from its `bind` to its `unbind`
abbrev pub standing_bindings : World → ℕ
standing_bindings w = fold (λ n task. n + length (own_bindings task)) 0 w.tasks
