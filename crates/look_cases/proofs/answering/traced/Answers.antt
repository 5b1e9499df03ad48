use Rattle.std.proofs.Common.{◌≡◌, Ok}
use Rattle.sts_trace.specs.Reading.{trace_read}
use Rattle.look_cases.proofs.FailedTraces.{fails_with}
use Rattle.look_cases.proofs.answering.traced.Goals as goal

pub returns-in-Ok : goal.returns-in-Ok
returns-in-Ok c n d answer =
    let read : trace_read c.args.trace.now ≡ Ok c.in-Ok.events.items = c.in-Ok.ensures.exact in
    let state = rw c.as_slice.ensures.value at c.ran-state.ensures in
    let made = c.with_member.ensures _ _ answer state in
    rw read made

pub returns-in_ok-fault-in-Err : goal.returns-in_ok-fault-in-Err
returns-in_ok-fault-in-Err c n d answer =
    let read = fails_with c.in-Err.error (trace_read c.args.trace.now) c.in-Err.ensures.exact c.in_ok-fault-in-Err.ensures.0 in
    let made = c.with_member-in-Err.ensures _ _ answer c.in_ok-fault-in-Err.ensures.1 in
    rw read made
