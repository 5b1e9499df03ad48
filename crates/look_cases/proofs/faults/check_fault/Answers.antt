use Rattle.look_cases.proofs.faults.check_fault.Goals as goal

pub returns : goal.returns
returns c =
    let made = c.with_text.ensures _ _ c.object_of-fault.ensures c.code.ensures in
    rw c.number.ensures at made
