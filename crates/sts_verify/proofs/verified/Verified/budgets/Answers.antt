use Rattle.std.proofs.Common.{◌<◌, length, ap, ◌∙◌, subst, arith}
use Rattle.sts_code.specs.Program.{Program}
use Rattle.sts_rules.specs.Budget.{no_budget}
use Rattle.sts_rules.specs.Refusal.{IsBudgetOf}
use Rattle.std.proofs.lemmas.List.{get_or_default}
use Rattle.sts_verify.proofs.BudgetLemmas.{budget_is}
use Rattle.sts_verify.proofs.verified.Verified.budgets.Goals as goal

pub returns : goal.returns
returns c =
    let lt : c.args.function < length c.self.inside.budgets.items =
    omega (arith, c.self.invariant.1, ap (λ (q : Program). length q.routines) c.self.view_is, c.requires) in
    subst (λ q. IsBudgetOf q c.args.function c.index.result.now) c.self.view_is
    (budget_is c.self.inside.program c.self.inside.budgets.items c.args.function lt c.self.invariant.2 c.index.result.now
    (c.index.ensures ∙ get_or_default c.self.inside.budgets.items c.args.function _ no_budget lt))
