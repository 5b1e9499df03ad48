use Rattle.std.proofs.Common.{List, subst}
use Rattle.std.specs.Prelude.{IfOk}
use Rattle.ends_plain.specs.declared.config.Found.{Found}
use Rattle.ends_whole.specs.Whole.{AreWhole}
use Rattle.ends_whole.proofs.ends.is_whole.Goals as goal

pub returns : goal.returns
returns c = subst (λ (found : List Found). IfOk c.are_whole.result (λ yes. AreWhole yes c.args.setting.now found)) c.as_slice.ensures.value c.are_whole.ensures
