use Rattle.std.proofs.Common.{true, sym, ◌∙◌}
use Rattle.sts_cancel.proofs.RaisingLemmas.{raised_seen}
use Rattle.sts_tree.specs.Steps.{with_scope}
use Rattle.sts_cancel.proofs.cancelling.cancel.Goals as goal

pub returns : goal.returns
returns g c x is =
    let not = sym (c.cancelled.ensures x is) ∙ c.if-cancelled.false in
    rw not (c.raise_living.ensures ∙ raised_seen c.mark_cancelled.new.self
    (with_scope c.args.tree.now c.args.s (record x { cancelled = true })) c.args.s (c.mark_cancelled.ensures x is))
