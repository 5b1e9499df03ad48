use Rattle.sts_types.proofs.PromisingLemmas.{promises}
use Rattle.sts_verify.proofs.laws.typing_promises.Goals as goal

pub returns : goal.returns
returns c = promises c.args.program.now c.functions.ensures.checked c.requires
