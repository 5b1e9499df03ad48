use Rattle.std.proofs.Common.{None, true, ◌∙◌, get_or}
use Rattle.sts_tree.specs.Steps.{with_scope}
use Rattle.sts_tree.proofs.SeeingLemmas.{some_scope}
use Rattle.sts_cancel.proofs.RaisingLemmas.{cancel_seen, written}
use Rattle.sts_cancel.proofs.cancelling.expire.Goals as goal

pub cancel-requires : goal.cancel-requires
cancel-requires g c none =
    let p = some_scope (get_or c.args.tree.now.scopes c.args.s None) c.requires in
    let at = written c.args.tree.now c.mark_expired.new.self c.args.s p.0 (record p.0 { expired = true }) p.1 (c.mark_expired.ensures p.0 p.1) in
    cc

pub returns : goal.returns
returns g c x is =
    let at = written c.args.tree.now c.mark_expired.new.self c.args.s x (record x { expired = true }) is (c.mark_expired.ensures x is) in
    c.cancel.ensures (record x { expired = true }) at ∙ cancel_seen c.mark_expired.new.self
    (with_scope c.args.tree.now c.args.s (record x { expired = true })) c.args.s (record x { expired = true })
    (c.mark_expired.ensures x is)
