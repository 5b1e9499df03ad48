use Rattle.std.proofs.Common.{rules}
use Rattle.look_drawing.specs.Frame.{svg_start}
use Rattle.look_drawing.proofs.frame.svg_start.Goals as goal

pub returns : goal.returns
unfolding svg_start
returns c = search rules
