use Rattle.std.proofs.Common.{◌≤◌}
use Rattle.sts_model.specs.Standing.{standing_tasks, standing_scopes, standing_bindings}
use Rattle.laws_accepted.proofs.Printed.{with_main}
use Rattle.laws_accepted.proofs.Views as laws
use Rattle.laws_accepted.proofs.accepted.views_are_within.Goals as goal

pub returns : goal.returns
returns c =
    let p = c.args.verified.now in
    let checked = c.main_budgets.ensures.checked in
    let some = c.main_budgets.ensures.some in
    laws.views_are_within p c.standing_is_seen.ensures c.bindings_are_seen.ensures
    (with_main p checked some (λ b events w. standing_tasks w ≤ b.tasks) (c.tasks_are_within.ensures p))
    (with_main p checked some (λ b events w. standing_scopes w ≤ b.scopes) (c.scopes_are_within.ensures p))
    (with_main p checked some (λ b events w. standing_bindings w ≤ b.binds) (c.binds_are_within.ensures p))
