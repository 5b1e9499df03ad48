use Rattle.std.proofs.Common.{refl}
use Rattle.sts_cli.proofs.program.outside_of.Goals as goal

pub returns-in-Some : goal.returns-in-Some
returns-in-Some c = λ program. rw (c.in-Some.is, c.new.ensures.name, c.new.ensures.text, c.as_slice.ensures.value) refl
