use Rattle.std.proofs.Common.{refl}
use Rattle.look_drawing.specs.Legend.{marks}
use Rattle.look_drawing.proofs.legend.all_marks.Goals as goal

pub returns-clause-value : goal.returns-clause-value
unfolding marks
returns-clause-value c = refl
