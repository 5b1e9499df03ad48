use Rattle.std.proofs.Common.{rules}
use Rattle.laws_calls.specs.Steps.{is_sure}
use Rattle.ends_picks.proofs.counts.sure_count.Goals as goal

pub returns : goal.returns
returns c = c.count.ensures (is_sure c.args.joiner) (λ x b k. search rules)
