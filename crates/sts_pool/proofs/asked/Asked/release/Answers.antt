use Rattle.sts_pool.proofs.Asking.{beside_asked}
use Rattle.sts_pool.proofs.asked.Asked.release.Goals as goal

pub invariant_of-self : goal.invariant_of-self
invariant_of-self g c =
    beside_asked g.O.Outside.gives g.B.Runs.program g.B.Runs.is_written g.B.Runs.outside c.self.inside.book c.release.new.self _
    c.self.inside.outside c.self.inside.is_spent c.release.ensures c.self.invariant
