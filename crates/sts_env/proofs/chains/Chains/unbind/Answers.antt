use Rattle.std.proofs.Common.{refl, arith, ◌-◌}
use Rattle.sts_env.proofs.ChangeLemmas.{unbinds, not_empty}
use Rattle.sts_env.proofs.chains.Chains.unbind.Goals as goal

pub returns : goal.returns
returns c =
    let u = unbinds _ _ _ c.unwrap-front.result (c.args.env.length - 1) c.remove-record.result c.unwrap-front.ensures
    (omega (arith, not_empty c.args.self.now c.args.env c.requires.some)) c.remove-record.ensures.value
    c.remove-record.ensures.updates.changed c.remove-record.ensures.updates.others (rw c.self.view_is c.requires.whole) in
    record {
      whole = u.whole;
      list = rw (← c.self.view_is) u.list;
      takes = rw (← c.self.view_is) u.takes;
      others = rw (← c.self.view_is) u.others;
      room = rw (← c.self.view_is) refl;
    }
