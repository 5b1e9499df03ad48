use Rattle.std.proofs.Common.{◌++◌, ◌∷◌, []}
use Rattle.sts_pool.proofs.Asking.{claimed_asked}
use Rattle.sts_pool.proofs.asked.Asked.claim.Goals as goal

pub invariant_of-self : goal.invariant_of-self
invariant_of-self g c =
    let claim = c.claim.ensures in
    claimed_asked g.O.Outside.gives g.B.Runs.program g.B.Runs.is_written g.B.Runs.outside c.self.inside.book c.claim.new.self
    c.self.inside.outside c.self.inside.is_spent c.claim.result _ (λ t. c.self.inside.book.out ++ t ∷ []) claim.none claim.out
    c.self.invariant
