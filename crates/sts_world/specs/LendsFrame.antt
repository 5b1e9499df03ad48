-- A task after a `&mut` to its frame was returned and has ended (this project's own).
use Rattle.std.specs.Borrow.{Lends, Fml, MutBor}
use Rattle.sts_model.specs.declared.record.Frame.{Frame}
use Rattle.sts_model.specs.declared.record.Task.{Task}
use Rattle.sts_model.specs.contracts.record.Frame as frame
use Rattle.sts_world.specs.contracts.task.TaskRecord as task

abbrev pub with_frame : Task → Frame → Task
with_frame t f = record t { frame = f }

-- once the borrow r ends, the task has the last value behind r as its frame, and all else is
-- unchanged
abbrev pub lends_frame : MutBor Task → MutBor Frame → Fml
lends_frame t r = Lends task.the_row frame.the_row t r (with_frame t.now)
