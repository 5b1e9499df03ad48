use Rattle.std.proofs.Common.{◌≡◌, subst}
use Rattle.std.specs.Result.{IfOk}
use Rattle.laws_calls.specs.declared.table.Part.{Part}
use Rattle.laws_calls.specs.Steps.{parts_with}
use Rattle.ends_table.proofs.parts.with_missed.Goals as goal

pub returns : goal.returns
returns c = subst (λ (y : Part). IfOk c.with_part.result (λ x. x ≡ parts_with c.args.known.seen.now c.args.known.i y)) c.in_ok-part.ensures c.with_part.ensures
