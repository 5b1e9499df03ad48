use Rattle.sts_pool.proofs.Asking.{opening_asked}
use Rattle.sts_pool.proofs.asked.Asked.new.Goals as goal

pub invariant_of-result : goal.invariant_of-result
invariant_of-result g c = opening_asked g.O.Outside.gives g.B.Runs.program g.B.Runs.is_written g.B.Runs.outside c.args.book c.args.outside
    c.requires.program c.requires.written c.requires.opening c.requires.outside
