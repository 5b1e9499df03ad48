use Rattle.std.proofs.Common.{◌∙◌, sym}
use Rattle.sts_types.proofs.SimpleLemmas.{straight_lead}
use Rattle.sts_types.proofs.least.lead_cause.Goals as goal

pub returns-then-is_straight : goal.returns-then-is_straight
returns-then-is_straight c =
    c.straight_cause.ensures ∙ straight_lead c.args.site.now.loops.now c.args.site.now.pc c.args.site.now.instr c.args.state.now
    (sym c.is_straight.ensures ∙ c.if-is_straight.true)
