-- The records after a `&mut` to one of their tasks was returned and has ended (this project's own).
use Rattle.std.specs.Prelude.{ℕ}
use Rattle.std.specs.Borrow.{Lends, Fml, MutBor}
use Rattle.sts_model.specs.declared.record.Task.{Task}
use Rattle.sts_model.specs.World.{World, with_task}
use Rattle.sts_world.specs.contracts.records.Records as records
use Rattle.sts_world.specs.contracts.task.TaskRecord as task

-- once the borrow r ends, the task of this birth has the last value behind r, and all else is
-- unchanged
abbrev pub lends_task : MutBor World → ℕ → MutBor Task → Fml
lends_task w t r = Lends records.the_row task.the_row w r (with_task w.now t)
