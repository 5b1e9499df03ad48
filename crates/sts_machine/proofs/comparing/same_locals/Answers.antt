use Rattle.std.proofs.lemmas.Bool.Decides.{Decides-int_eq}
use Rattle.std.proofs.lemmas.Slice.Eq.{slice_eq-Decides}
use Rattle.sts_machine.proofs.comparing.same_locals.Goals as goal

pub returns : goal.returns
returns c = slice_eq-Decides Decides-int_eq _ _ _ c.eq.ensures
