-- Scoped values: the environment of a task.
-- Restates "Description" of JEP 506. A binding is in force until it ends. The innermost one is
-- read. A subtask inherits those that were in force when its scope was opened.
use Rattle.std.specs.Prelude.{ℕ, ℤ, List, ◌++◌, Option, Some, None, option_map, find, filter_map}
use Rattle.std.specs.Prelude.{◌==◌}
use Rattle.sts_model.specs.declared.record.Task.{Task}
use Rattle.sts_model.specs.declared.record.Bound.{Bound}
use Rattle.sts_model.specs.declared.record.Entry.{Entry}
use Rattle.sts_model.specs.declared.record.Entry.TheVariants as entry
use Rattle.sts_model.specs.World.{World}
use Rattle.sts_model.specs.Living.{parent}

abbrev pub bound_of : Entry → Option Bound
bound_of (entry.Scope s) = None
bound_of (entry.Binding key value) = Some (record { key = key; value = value })

-- a task's own open bindings, innermost first
abbrev pub own_bindings : Task → List Bound
own_bindings task = filter_map bound_of task.frame.entries

-- the own open bindings, and then what the task's scope keeps
abbrev pub environment_of : Task → World → List Bound
environment_of task w = own_bindings task ++ (parent w task.scope).environment

-- the value of the first binding of the key
abbrev pub read : List Bound → ℕ → Option ℤ
read environment k =
    option_map (λ (b : Bound). b.value) (find (λ (b : Bound). b.key == k) environment)
