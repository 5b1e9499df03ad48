use Rattle.std.proofs.Common.{rules}
use Rattle.look_drawing.specs.Frame.{description_start}
use Rattle.look_drawing.proofs.frame.description_start.Goals as goal

pub returns : goal.returns
unfolding description_start
returns c = search rules
