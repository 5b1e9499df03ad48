use Rattle.look_text.proofs.NameLemmas.{unknown_names_stop}
use Rattle.look_text.proofs.laws.unknown_names_stop.Goals as goal

pub returns : goal.returns
returns c = unknown_names_stop
