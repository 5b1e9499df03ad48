use Rattle.sts_types.proofs.Visiting.{never_refused}
use Rattle.sts_types.proofs.pass.typing_of.Goals as goal

pub unreachable-requires : goal.unreachable-requires
unreachable-requires c =
    never_refused c.args.program.now c.args.function _ _ _ _ (c.in-Err-Refused.ensures {u = tt}) c.in-Err-Refused.field-0-is c.requires.typed
