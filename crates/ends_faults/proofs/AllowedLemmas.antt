-- An instruction that stays in the frame asks for operands, and for a subtask in a slot that it empties.
use Rattle.std.proofs.Common.{◌≡◌, true}
use Rattle.sts_code.specs.Program.{Program}
use Rattle.sts_code.specs.declared.instr.Instr.{Instr}
use Rattle.sts_code.specs.declared.instr.Instr.TheVariants.{Open, Fork, Join, Close, Cancelled, Case, Get, Except, Tally, Total, Bind, Unbind, Read, Ret, Fail}
use Rattle.sts_model.specs.Local.{emptied_slot, stays_in_frame}
use Rattle.laws_calls.specs.declared.table.Call.{Call}
use Rattle.laws_calls.specs.declared.table.Own.{Own}
use Rattle.ends_faults.specs.Safe.{IsAllowed, holds_subtask}

pub local_allowed : (p : Program) (c : Call) (own : Own) (i : Instr) → stays_in_frame i ≡ true → holds_subtask own (emptied_slot i) ≡ true → IsAllowed p c own i
local_allowed p c own (Open x timed joiner) e holds = cc
local_allowed p c own (Fork x g h) e holds = cc
local_allowed p c own (Join x failed timeout to_i) e holds = cc
local_allowed p c own (Close x) e holds = cc
local_allowed p c own (Cancelled x) e holds = cc
local_allowed p c own (Case h success failed) e holds = cc
local_allowed p c own (Get h) e holds = cc
local_allowed p c own (Except h) e holds = cc
local_allowed p c own (Tally x kind) e holds = cc
local_allowed p c own (Total x) e holds = cc
local_allowed p c own (Bind k) e holds = cc
local_allowed p c own Unbind e holds = cc
local_allowed p c own (Read k) e holds = cc
local_allowed p c own Ret e holds = cc
local_allowed p c own Fail e holds = cc
local_allowed p c own i e holds = holds
