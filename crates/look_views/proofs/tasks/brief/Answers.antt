use Rattle.look_views.proofs.tasks.brief.Goals as goal

pub returns : goal.returns
returns c =
    let made = c.with_member.ensures _ _ c.object_of-brief.ensures c.state.ensures in
    rw (c.name_of.ensures, c.function.ensures, c.flag.ensures, c.pc.ensures, c.widened.ensures, c.parent.ensures, c.records-records.ensures) at made
