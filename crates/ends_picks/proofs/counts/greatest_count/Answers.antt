use Rattle.std.proofs.Common.{rules}
use Rattle.ends_picks.specs.Bounds.{can_count}
use Rattle.ends_picks.proofs.counts.greatest_count.Goals as goal

pub returns : goal.returns
returns c = c.count.ensures (can_count c.args.joiner) (λ x b k. search rules)
