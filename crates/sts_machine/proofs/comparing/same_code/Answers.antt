use Rattle.std.proofs.lemmas.Slice.Eq.{slice_eq-Decides}
use Rattle.sts_machine.proofs.Instrs.{each_instr}
use Rattle.sts_machine.proofs.comparing.same_code.Goals as goal

pub returns : goal.returns
returns c = slice_eq-Decides each_instr _ _ _ c.eq.ensures
