use Rattle.sts_pool.proofs.Kept.{released_kept}
use Rattle.sts_pool.proofs.book.Book.release.Goals as goal

pub invariant_of-self : goal.invariant_of-self
invariant_of-self c =
    rw (c.remove_task.ensures.items, c.remove_task.ensures.capacity) (released_kept c.self.inside.machine c.self.inside.journal
    c.self.inside.outside c.self.inside.out.items _ c.args.task c.self.invariant)
