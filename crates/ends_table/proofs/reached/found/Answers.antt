use Rattle.std.proofs.Common.{arith}
use Rattle.ends_table.proofs.reached.found.Goals as goal

pub returns : goal.returns
returns c = (c.in-Some.left, omega arith, c.in-Some.ensures)
