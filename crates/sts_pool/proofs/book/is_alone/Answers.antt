use Rattle.std.proofs.Common.{◌≡◌, get_or, arith}
use Rattle.std.proofs.lemmas.Bool.Decides.{nat_tests}
use Rattle.sts_pool.proofs.Outs.{alone_without}
use Rattle.sts_pool.proofs.book.is_alone.Goals as goal

pub returns : goal.returns
returns c e =
    let is : get_or c.args.out.now 0 0 ≡ c.args.task = grind (arith, nat_tests, e) in
    alone_without c.args.task c.args.out.now c.if-out-ne1.false is
