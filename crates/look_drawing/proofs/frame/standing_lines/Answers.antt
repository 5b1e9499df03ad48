use Rattle.look_drawing.specs.Frame.{standing_lines}
use Rattle.look_drawing.proofs.frame.standing_lines.Goals as goal

pub returns : goal.returns
unfolding standing_lines
returns c = c.view_lines.ensures
