use Rattle.std.proofs.Common.{rules}
use Rattle.look_drawing.specs.Frame.{description_end}
use Rattle.look_drawing.proofs.frame.description_end.Goals as goal

pub returns : goal.returns
unfolding description_end
returns c = search rules
