use Rattle.sts_pool.proofs.Asking.{stepped_asked}
use Rattle.sts_pool.proofs.asked.Asked.turn.Goals as goal

pub invariant_of-self : goal.invariant_of-self
invariant_of-self g c =
    let step = c.step.ensures in
    stepped_asked g.O.Outside.gives g.B.Runs.program g.B.Runs.is_written g.B.Runs.outside c.self.inside.book c.step.new.self
    c.self.inside.outside c.self.inside.is_spent c.args.task step.program step.journal c.self.invariant

pub invariant_of-self-2 : goal.invariant_of-self-2
invariant_of-self-2 g c =
    let step = c.step.ensures in
    stepped_asked g.O.Outside.gives g.B.Runs.program g.B.Runs.is_written g.B.Runs.outside c.self.inside.book c.step.new.self
    c.self.inside.outside c.self.inside.is_spent c.args.task step.program step.journal c.self.invariant
