use Rattle.look_text.proofs.StandLemmas.{lines_stand}
use Rattle.look_text.proofs.laws.lines_stand_in_the_text.Goals as goal

pub returns : goal.returns
returns c = lines_stand
