use Rattle.std.proofs.Common.{Some}
use Rattle.sts_store.proofs.Forks.{begun, set_last}
use Rattle.sts_store.proofs.beginning.begin.Goals as goal

pub returns-then-reuse-clause-slots : goal.returns-then-reuse-clause-slots
returns-then-reuse-clause-slots c =
    let reused = c.reuse.ensures.slots c.if-reuse.true in
    rw (reused.1, c.born-birth.ensures.value, c.begin_over.ensures)
    (set_last c.args.frames.now.slots (Some reused.0) (Some (begun c.args.function c.args.locals.now c.args.slot c.args.env)))
