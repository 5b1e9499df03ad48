-- What a step does, seen from the world before it (this project's own).
use Rattle.std.specs.Prelude.{ℕ, length, not, Option, Some, None, if◌then◌else◌}
use Rattle.sts_code.specs.Program.{Program}
use Rattle.sts_code.specs.declared.instr.Instr.{Instr}
use Rattle.sts_code.specs.declared.instr.Instr.TheVariants as instr
use Rattle.sts_model.specs.declared.event.End.TheVariants.{Success, Failed}
use Rattle.sts_model.specs.declared.event.Fault.{Fault}
use Rattle.sts_model.specs.declared.record.Frame.{Frame}
use Rattle.sts_model.specs.Effect.{named}
use Rattle.sts_model.specs.Living.{any_lives, lives}
use Rattle.sts_model.specs.Local.{operand}
use Rattle.sts_model.specs.Misuse.{misuse, slot}
use Rattle.sts_model.specs.World.{World, instr_at, scope_at, task_at}
use Rattle.look_tell.specs.declared.deed.Deed.{Deed}
use Rattle.look_tell.specs.declared.deed.Deed.TheVariants as deed

-- a `close` begins while subtasks live; it cancels the scope, unless that was done before
abbrev pub closing : World → ℕ → Deed
closing w s =
    if any_lives w s then deed.BeginsToClose s (not (scope_at w s).cancelled) else deed.Closes s

-- an instruction that is no misuse: what others notice of it, or that it asks something of them
abbrev pub deed_of : World → Frame → Instr → Deed
deed_of w f (instr.Open s timed joiner) = deed.Opens (length w.scopes)
deed_of w f (instr.Fork s g h) = deed.Forks (length w.tasks)
deed_of w f (instr.Join s failed timeout interrupted) = deed.Joins (named (slot f s))
deed_of w f (instr.Close s) = closing w (named (slot f s))
deed_of w f instr.Ret = deed.Ends (Success (operand f 0))
deed_of w f instr.Fail = deed.Ends (Failed (operand f 0))
deed_of w f (instr.Case h success failed) = deed.Goes
deed_of w f (instr.Cancelled s) = deed.Gives
deed_of w f instr.Interrupted = deed.Gives
deed_of w f (instr.Get h) = deed.Gives
deed_of w f (instr.Except h) = deed.Gives
deed_of w f (instr.Tally s k) = deed.Gives
deed_of w f (instr.Total s) = deed.Gives
deed_of w f _ = deed.Own

-- a fault, or what the instruction does
abbrev pub deed_by : World → Frame → Option Fault → Option Instr → Deed
deed_by w f (Some kind) i = deed.Faults kind
deed_by w f None (Some i) = deed_of w f i
deed_by w f None None = deed.Own

-- what the next step of a living task does
abbrev pub next_deed : Program → World → ℕ → Deed
next_deed p w t =
    if lives (task_at w t)
    then deed_by w (task_at w t).frame (misuse p w t) (instr_at p (task_at w t).frame)
    else deed.Own
