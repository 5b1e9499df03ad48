use Rattle.look_cases.proofs.runs.run.Goals as goal

pub returns-in_ok-line-in-Fault : goal.returns-in_ok-line-in-Fault
returns-in_ok-line-in-Fault c =
    let made = c.with_member.ensures _ _ c.outcome-fault.ensures c.value_of-number.ensures in
    let told = rw c.in_ok-line-in-Fault.ensures at made in
    rw c.in-Fault.is told
