use Rattle.std.proofs.Common.{◌∙◌, sym}
use Rattle.sts_types.proofs.MatchingLemmas.{ends}
use Rattle.sts_types.proofs.leads.skip.Goals as goal

pub after-requires : goal.after-requires
after-requires c = (ends c.args.loops.now c.args.pc c.in-Some.end (sym c.end_of.ensures ∙ c.in-Some.is)).within
