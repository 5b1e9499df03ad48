use Rattle.std.proofs.Common.{◌++◌, ◌∷◌, []}
use Rattle.sts_machine.specs.Slice.{Cut}
use Rattle.sts_pool.proofs.Asking.{claimed_asked}
use Rattle.sts_pool.proofs.asked.Asked.lend.Goals as goal

pub invariant_of-self : goal.invariant_of-self
invariant_of-self g c =
    let out = c.lend.ensures in
    claimed_asked g.O.Outside.gives g.B.Runs.program g.B.Runs.is_written g.B.Runs.outside c.self.inside.book c.lend.new.self
    c.self.inside.outside c.self.inside.is_spent c.lend.result _ (λ (s : Cut). c.self.inside.book.out ++ c.args.task ∷ []) out.none
    out.out c.self.invariant
