use Rattle.std.proofs.Common.{refl}
use Rattle.ends_search.specs.Search.{IsWay}
use Rattle.ends_plain.specs.Configs.{next, can}
use Rattle.ends_plain.proofs.shorter.walked.Goals as goal

pub returns : goal.returns
returns c =
    let g = c.args.setting.now in
    let first = c.args.first.now in
    let begins : IsWay (next g) (can g) first c.in_ok-way.way.trace c.in_ok-way.way.config =
    rw (c.in_ok-way.ensures.trace, c.in_ok-way.ensures.config) (record { can_all = tt; leads = refl }) in
    c.end.ensures g first (c.in_ok-follow.ensures first begins)
