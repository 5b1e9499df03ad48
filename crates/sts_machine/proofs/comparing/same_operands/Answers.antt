use Rattle.std.proofs.lemmas.Bool.Decides.{Decides-int_eq}
use Rattle.sts_machine.proofs.Equals.{stacks}
use Rattle.sts_machine.proofs.comparing.same_operands.Goals as goal

pub returns : goal.returns
returns c = stacks Decides-int_eq c.as_slice.result.now c.as_slice-2.result.now _ _ _ c.as_slice.ensures c.as_slice-2.ensures c.eq.ensures
