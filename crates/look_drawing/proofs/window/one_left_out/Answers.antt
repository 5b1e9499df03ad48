use Rattle.std.proofs.Common.{rules}
use Rattle.look_drawing.specs.Windows.{one_left_out}
use Rattle.look_drawing.proofs.window.one_left_out.Goals as goal

pub returns : goal.returns
unfolding one_left_out
returns c = search rules
