use Rattle.look_text.proofs.PlaceLemmas.{lines_say}
use Rattle.look_text.proofs.laws.lines_say_their_instructions.Goals as goal

pub returns : goal.returns
returns c = lines_say
