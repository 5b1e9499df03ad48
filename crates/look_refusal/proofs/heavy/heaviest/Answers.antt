use Rattle.std.proofs.Common.{sym, subst}
use Rattle.sts_rules.specs.Budget.{AreBudgets}
use Rattle.look_refusal.proofs.heavy.heaviest.Goals as goal

pub heaviest_after-requires-clause-right : goal.heaviest_after-requires-clause-right
heaviest_after-requires-clause-right c = subst (AreBudgets c.args.program.now) (sym c.as_slice.ensures.value) (c.in_ok-earlier.ensures {u = tt}).1
