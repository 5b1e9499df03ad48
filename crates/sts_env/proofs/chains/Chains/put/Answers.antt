use Rattle.std.proofs.Common.{refl, arith, add-one}
use Rattle.sts_env.proofs.ChangeLemmas.{binds}
use Rattle.sts_env.proofs.Room.{within}
use Rattle.sts_env.proofs.chains.Chains.put.Goals as goal

-- each binding of the environment has a record, and one more fits
pub overflow_add-result : goal.overflow_add-result
overflow_add-result c =
    let stand = within c.self.inside.slab.slots c.args.env.length c.args.env.front (rw (← c.self.view_is) at c.requires.whole) in
    let left = rw (← c.self.view_is) at c.requires.room in
    omega (arith, stand, left, c.self.invariant.1)

pub returns : goal.returns
returns c =
    let left = rw (← c.self.view_is) at c.requires.room in
    let b = binds _ _ _ _ _ c.insert_reserved-front.result c.insert_reserved-front.ensures.was_vacant
    c.insert_reserved-front.ensures.updates.changed c.insert_reserved-front.ensures.updates.others
    (rw (← c.self.view_is) at c.requires.whole) refl (add-one _) in
    record {
      whole = b.whole;
      list = rw (← c.self.view_is) b.list;
      puts = rw (← c.self.view_is) b.puts;
      others = rw (← c.self.view_is) b.others;
      room = rw (← c.self.view_is) (omega (arith, left));
    }
