use Rattle.sts_pool.proofs.Asking.{ran_asked}
use Rattle.sts_pool.proofs.asked.Asked.run_here.Goals as goal

pub invariant_of-self : goal.invariant_of-self
invariant_of-self g c =
    let run = c.run_here.ensures in
    ran_asked g.O.Outside.gives g.B.Runs.program g.B.Runs.is_written g.B.Runs.outside c.self.inside.book c.run_here.new.self
    c.self.inside.outside c.self.inside.is_spent c.run_here.result c.args.task run.program run.journal c.self.invariant
