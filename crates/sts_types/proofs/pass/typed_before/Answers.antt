use Rattle.sts_types.proofs.Visiting.{never_refused}
use Rattle.sts_types.proofs.pass.typed_before.Goals as goal

pub returns-in-Err-Refused : goal.returns-in-Err-Refused
returns-in-Err-Refused c = never_refused c.args.program.now c.args.function c.args.pc _ _ _ (c.in-Err-Refused.ensures {u = tt}) c.in-Err-Refused.field-0-is
