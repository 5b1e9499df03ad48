use Rattle.look_text.proofs.NearLemmas.{all_are_known}
use Rattle.look_text.proofs.laws.words_of_all_kinds_are_known.Goals as goal

pub returns : goal.returns
returns c = all_are_known
