use Rattle.std.proofs.Common.{refl}
use Rattle.look_drawing.specs.Style.{style}
use Rattle.look_drawing.proofs.style.style.Goals as goal

pub returns : goal.returns
unfolding style
returns c = refl
