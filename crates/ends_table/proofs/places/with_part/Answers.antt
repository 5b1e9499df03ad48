use Rattle.std.proofs.Common.{◌≡◌, List, subst}
use Rattle.std.specs.Result.{IfOk}
use Rattle.laws_calls.specs.declared.table.Part.{Part}
use Rattle.ends_table.proofs.places.with_part.Goals as goal

pub returns : goal.returns
returns c = subst (λ (ps : List Part). IfOk c.with_parts.result (λ x. x ≡ record c.args.seen.now { parts = ps })) c.in_ok-parts.ensures c.with_parts.ensures
