use Rattle.look_cases.proofs.verdicts.refused.Goals as goal

pub returns : goal.returns
returns c =
    let made = c.with_text.ensures _ _ c.object_of-verdict.ensures c.code.ensures in
    rw (c.name_of-name.ensures, c.in_ok-line.ensures, c.number.ensures) at made
