use Rattle.std.proofs.Common.{rules}
use Rattle.look_drawing.specs.Windows.{some_left_out}
use Rattle.look_drawing.proofs.window.some_left_out.Goals as goal

pub returns : goal.returns
unfolding some_left_out
returns c = search rules
