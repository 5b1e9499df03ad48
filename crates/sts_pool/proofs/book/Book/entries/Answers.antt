use Rattle.std.proofs.Common.{arith}
use Rattle.sts_pool.proofs.Kept.{countable}
use Rattle.sts_pool.proofs.book.Book.entries.Goals as goal

pub overflow_add-result : goal.overflow_add-result
overflow_add-result c =
    let few = countable c.self.inside.machine c.self.inside.journal c.self.inside.outside c.self.inside.out.items _ c.self.invariant in
    let seen = c.steps.ensures.seen in
    omega (arith, few, seen)

pub returns : goal.returns
returns c =
    let seen = c.steps.ensures.seen in
    rw (← c.self.view_is) (omega (arith, seen))
