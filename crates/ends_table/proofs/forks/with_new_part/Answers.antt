use Rattle.std.proofs.Common.{◌≡◌, List, ◌++◌, ◌∷◌, [], ap, ◌∙◌, subst}
use Rattle.std.specs.Result.{IfOk}
use Rattle.laws_calls.specs.declared.table.Part.{Part}
use Rattle.laws_calls.specs.declared.table.Way.{Way}
use Rattle.laws_calls.specs.Steps.{new_part}
use Rattle.ends_table.proofs.forks.with_new_part.Goals as goal

pub returns : goal.returns
returns c =
    let same = c.in_ok-parts.ensures ∙ ap (λ (ws : List Way). c.args.seen.now.parts ++ new_part ws c.args.seen.now ∷ []) c.in_ok-share.ensures in
    subst (λ (ps : List Part). IfOk c.with_parts.result (λ x. x ≡ record c.args.seen.now { parts = ps })) same c.with_parts.ensures
