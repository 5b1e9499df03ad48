use Rattle.std.proofs.Common.{refl}
use Rattle.ends_search.specs.Search.{IsWay}
use Rattle.ends_plain.specs.Configs.{next, next_kept, can, tries}
use Rattle.ends_plain.proofs.full_trace.with_own_steps.Goals as goal

pub returns : goal.returns
returns c r leads =
    let a = c.args.asked.now in
    let first = c.args.first.now in
    let way = c.in_ok-way.way in
    let begins : IsWay (next a.setting) (can a.setting) first way.trace way.config =
    rw (c.in_ok-way.ensures.trace, c.in_ok-way.ensures.config) (record { can_all = tt; leads = refl }) in
    let ahead : IsWay (next_kept a) (tries a.setting) way.config c.args.events.now r = rw c.in_ok-way.ensures.config leads in
    c.in_ok-add_all.ensures first r begins ahead
