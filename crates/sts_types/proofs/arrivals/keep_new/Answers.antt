use Rattle.std.proofs.Common.{rules, ◌≡◌, ◌∷◌, [], length}
use Rattle.sts_types.proofs.Marking.{set_last}
use Rattle.sts_types.proofs.arrivals.keep_new.Goals as goal

pub returns-clause-more : goal.returns-clause-more
returns-clause-more c =
    let count : c.in-Ok.count ≡ length c.args.kept.now.items = search rules in (
      c.copy_from.new.self ∷ [],
      set_last c.args.kept.now.items c.default.result c.copy_from.new.self c.push.new.self.items c.in-Ok.count
          c.in_ok-push.ensures.items count,
    )
