use Rattle.look_end_lines.proofs.FaultLemmas.{faults_in_lines}
use Rattle.look_end_lines.proofs.form.EndLinesEndsForm.program_of.Goals as goal

pub returns : goal.returns
returns c = faults_in_lines c.args.read c.args.text.now c.program_of.result _ c.program_of.ensures
