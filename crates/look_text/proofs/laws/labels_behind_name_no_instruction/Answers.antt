use Rattle.look_text.proofs.LabelLaw.{behind_names_none}
use Rattle.look_text.proofs.laws.labels_behind_name_no_instruction.Goals as goal

pub returns : goal.returns
returns c = behind_names_none
