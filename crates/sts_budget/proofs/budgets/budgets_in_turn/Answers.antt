use Rattle.std.proofs.Common.{Ok, refl}
use Rattle.sts_budget.specs.Outcome.{IsNumber}
use Rattle.sts_budget.specs.declared.change.Resource.TheVariants.{Steps, Tasks, Scopes, Binds}
use Rattle.sts_budget.proofs.Found.{before_steps, before_tasks, before_scopes, before_binds, found_all}
use Rattle.sts_budget.proofs.TogetherLemmas.{laid_for_pass, limit_of_pass, number_of_pass, error_of_pass}
use Rattle.sts_budget.proofs.budgets.budgets_in_turn.Goals.{In_ok-steps, In_ok-tasks, In_ok-scopes, In_ok-binds}
use Rattle.sts_budget.proofs.budgets.budgets_in_turn.Goals as goal

-- the numbers that the passes found
steps_are : (c : In_ok-steps) → IsNumber Steps c.args.source.now.earlier.now c.args.source.now.code.now (Ok c.in_ok-steps.steps)
steps_are c = number_of_pass c.args.source.now Steps _ c.pass_of.ensures (Ok c.in_ok-steps.steps) (c.in_ok-steps.ensures {u = tt})

tasks_are : (c : In_ok-tasks) → IsNumber Tasks c.args.source.now.earlier.now c.args.source.now.code.now (Ok c.in_ok-tasks.tasks)
tasks_are c = number_of_pass c.args.source.now Tasks _ c.pass_of-2.ensures (Ok c.in_ok-tasks.tasks) (c.in_ok-tasks.ensures {u = tt})

scopes_are : (c : In_ok-scopes) → IsNumber Scopes c.args.source.now.earlier.now c.args.source.now.code.now (Ok c.in_ok-scopes.scopes)
scopes_are c = number_of_pass c.args.source.now Scopes _ c.pass_of-3.ensures (Ok c.in_ok-scopes.scopes) (c.in_ok-scopes.ensures {u = tt})

binds_are : (c : In_ok-binds) → IsNumber Binds c.args.source.now.earlier.now c.args.source.now.code.now (Ok c.in_ok-binds.binds)
binds_are c = number_of_pass c.args.source.now Binds _ c.pass_of-4.ensures (Ok c.in_ok-binds.binds) (c.in_ok-binds.ensures {u = tt})

pub budget_of-requires : goal.budget_of-requires
budget_of-requires c = record {
  ready = laid_for_pass c.args.source.now Steps _ c.pass_of.ensures c.requires;
  most = limit_of_pass c.args.source.now Steps _ c.pass_of.ensures;
}

pub budget_of-requires-2 : goal.budget_of-requires-2
budget_of-requires-2 c = record {
  ready = laid_for_pass c.args.source.now Tasks _ c.pass_of-2.ensures c.requires;
  most = limit_of_pass c.args.source.now Tasks _ c.pass_of-2.ensures;
}

pub budget_of-requires-3 : goal.budget_of-requires-3
budget_of-requires-3 c = record {
  ready = laid_for_pass c.args.source.now Scopes _ c.pass_of-3.ensures c.requires;
  most = limit_of_pass c.args.source.now Scopes _ c.pass_of-3.ensures;
}

pub budget_of-requires-4 : goal.budget_of-requires-4
budget_of-requires-4 c = record {
  ready = laid_for_pass c.args.source.now Binds _ c.pass_of-4.ensures c.requires;
  most = limit_of_pass c.args.source.now Binds _ c.pass_of-4.ensures;
}

pub returns-in_err-steps : goal.returns-in_err-steps
returns-in_err-steps c =
    let s = c.args.source.now in
    error_of_pass s Steps _ c.pass_of.ensures (before_steps s.earlier.now s.code.now)
    c.in_err-steps.field-0.0 (c.in_err-steps.ensures {u = tt}) c.from_residual.result c.from_residual.ensures.1

pub returns-in_err-tasks : goal.returns-in_err-tasks
returns-in_err-tasks c =
    let s = c.args.source.now in
    error_of_pass s Tasks _ c.pass_of-2.ensures (before_tasks s.earlier.now s.code.now c.in_ok-steps.steps
    (steps_are (goal.at.returns-in_err-tasks c).In_ok-steps))
    c.in_err-tasks.field-0.0 (c.in_err-tasks.ensures {u = tt}) c.from_residual-in_err-tasks.result c.from_residual-in_err-tasks.ensures.1

pub returns-in_err-scopes : goal.returns-in_err-scopes
returns-in_err-scopes c =
    let h = goal.at.returns-in_err-scopes c in
    let s = c.args.source.now in
    error_of_pass s Scopes _ c.pass_of-3.ensures (before_scopes s.earlier.now s.code.now c.in_ok-steps.steps c.in_ok-tasks.tasks (steps_are h.In_ok-steps)
    (tasks_are h.In_ok-tasks))
    c.in_err-scopes.field-0.0 (c.in_err-scopes.ensures {u = tt}) c.from_residual-in_err-scopes.result c.from_residual-in_err-scopes.ensures.1

pub returns-in_err-binds : goal.returns-in_err-binds
returns-in_err-binds c =
    let h = goal.at.returns-in_err-binds c in
    let s = c.args.source.now in
    error_of_pass s Binds _ c.pass_of-4.ensures (before_binds s.earlier.now s.code.now c.in_ok-steps.steps c.in_ok-tasks.tasks c.in_ok-scopes.scopes
    (steps_are h.In_ok-steps) (tasks_are h.In_ok-tasks) (scopes_are h.In_ok-scopes))
    c.in_err-binds.field-0.0 (c.in_err-binds.ensures {u = tt}) c.from_residual-in_err-binds.result c.from_residual-in_err-binds.ensures.1

pub returns : goal.returns
returns c =
    let h = goal.at.returns c in
    let s = c.args.source.now in
    found_all s.earlier.now s.code.now s.code.now refl c.in_ok-steps.steps c.in_ok-tasks.tasks c.in_ok-scopes.scopes c.in_ok-binds.binds
    (steps_are h.In_ok-steps) (tasks_are h.In_ok-tasks) (scopes_are h.In_ok-scopes) (binds_are h.In_ok-binds)
