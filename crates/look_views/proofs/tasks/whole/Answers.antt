use Rattle.look_views.proofs.tasks.whole.Goals as goal

pub returns : goal.returns
returns c =
    let frame = rw c.records.ensures at c.frame.ensures in
    c.with_member.ensures _ _ c.brief-brief.ensures frame
