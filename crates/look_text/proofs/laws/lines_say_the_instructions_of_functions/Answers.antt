use Rattle.look_text.proofs.PlaceLemmas.{functions_say}
use Rattle.look_text.proofs.laws.lines_say_the_instructions_of_functions.Goals as goal

pub returns : goal.returns
returns c = functions_say
