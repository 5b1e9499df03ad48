use Rattle.look_accepted.proofs.point.by_loop.Goals as goal

pub along-requires-clause-to : goal.along-requires-clause-to
along-requires-clause-to c = c.requires.past c.in-Times.field-0 c.in_ok-end-in-Times.end c.in-Times.is c.in_ok-end-in-Times.ensures
