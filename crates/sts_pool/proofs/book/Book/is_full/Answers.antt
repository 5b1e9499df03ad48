use Rattle.sts_pool.proofs.Kept.{most_entries}
use Rattle.sts_pool.proofs.book.Book.is_full.Goals as goal

pub returns-clause-most : goal.returns-clause-most
returns-clause-most c = most_entries c.self.inside.machine c.self.inside.journal c.self.inside.outside c.self.inside.out.items _
    c.args.self.now c.self.view_is c.self.invariant
