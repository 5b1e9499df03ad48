use Rattle.std.proofs.Common.{◌≡◌, length}
use Rattle.sts_rules.specs.Budget.{AreBudgets}
use Rattle.look_refusal.proofs.earlier.budgets_before.Given as goal

-- the budgets of the functions so far
abbrev pub invariant-loop-earlier : goal.invariant-loop-earlier
invariant-loop-earlier l = (length l.budgets.items ≡ l.earlier) × AreBudgets l.program l.budgets.items
