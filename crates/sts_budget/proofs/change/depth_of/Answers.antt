use Rattle.sts_budget.proofs.TogetherLemmas.{depth_named}
use Rattle.sts_budget.proofs.change.depth_of.Goals as goal

pub returns-in_default-clause-value : goal.returns-in_default-clause-value
returns-in_default-clause-value c = depth_named c.args.resource c.len.result c.args.entries.now c.in_default.not-Steps c.len.ensures.len
