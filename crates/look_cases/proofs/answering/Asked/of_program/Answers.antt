use Rattle.std.proofs.Common.{refl}
use Rattle.look_cases.proofs.answering.Asked.of_program.Goals as goal

pub returns-in-Some : goal.returns-in-Some
returns-in-Some c = rw c.in-Some.is (c.traced.ensures _ _ (c.with_member-answer.ensures _ _ c.numbered.ensures refl))

pub returns-in-None : goal.returns-in-None
returns-in-None c = rw c.in-None.is (c.with_member-answer.ensures _ _ c.numbered.ensures refl)
