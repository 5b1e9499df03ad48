use Rattle.std.proofs.Common.{rules}
use Rattle.ends_picks.specs.Groups.{may_be_in}
use Rattle.ends_picks.proofs.groups.count_in.Goals as goal

pub returns : goal.returns
returns c = c.count.ensures (may_be_in c.args.joiner c.args.group) (λ x b k. search rules)
