use Rattle.sts_rules.proofs.VerdictLemmas.{verdict_is_one}
use Rattle.sts_verify.proofs.laws.verdict_is_one.Goals as goal

pub returns : goal.returns
returns c = verdict_is_one c.args.program.now
