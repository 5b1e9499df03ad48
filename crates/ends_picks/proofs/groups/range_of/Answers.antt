use Rattle.std.proofs.Common.{arith}
use Rattle.ends_picks.proofs.GroupLemmas.{in_range}
use Rattle.ends_picks.proofs.groups.range_of.Goals as goal

pub returns : goal.returns
returns c pick picks = in_range c.args.joiner c.args.group c.args.parts.now pick _ picks
    (omega (arith, c.count_out-out.ensures, c.len.ensures, c.saturating_sub-least.ensures)) (omega (arith, c.count_in-greatest.ensures))
