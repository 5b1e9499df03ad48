use Rattle.look_views.proofs.runs.run.Goals as goal

pub returns-in_ok-fault-in-Fault : goal.returns-in_ok-fault-in-Fault
returns-in_ok-fault-in-Fault c =
    let made = rw c.in_ok-fault-in-Fault.ensures at c.placed.ensures in
    rw c.in-Fault.is made
