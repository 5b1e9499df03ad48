use Rattle.sts_pool.proofs.Books.{picked}
use Rattle.sts_pool.proofs.book.Book.has_more.Goals as goal

pub returns : goal.returns
returns c = rw c.is_some.ensures (picked c.args.self.now c.pick.result c.pick.ensures.free)
