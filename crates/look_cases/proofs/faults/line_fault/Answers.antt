use Rattle.look_cases.proofs.faults.line_fault.Goals as goal

pub returns : goal.returns
returns c = c.with_text.ensures _ _ c.object_of-fault.ensures c.code.ensures
