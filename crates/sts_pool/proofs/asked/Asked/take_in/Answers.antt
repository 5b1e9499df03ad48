use Rattle.sts_pool.proofs.Asking.{back_asked}
use Rattle.sts_pool.proofs.asked.Asked.take_in.Goals as goal

pub invariant_of-self : goal.invariant_of-self
invariant_of-self g c =
    let back = c.take_in.ensures in
    back_asked g.O.Outside.gives g.B.Runs.program g.B.Runs.is_written g.B.Runs.outside c.self.inside.book c.take_in.new.self
    c.self.inside.outside c.self.inside.is_spent c.args.slice.now.count c.args.slice.now.task c.take_in.result back.program back.journal
    back.stays c.self.invariant
