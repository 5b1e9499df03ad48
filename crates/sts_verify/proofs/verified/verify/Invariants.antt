use Rattle.std.proofs.Common.{◌≡◌, ◌<◌, ℕ, length}
use Rattle.sts_rules.specs.Budget.{AreBudgets}
use Rattle.sts_rules.specs.Refusal.{IsSound}
use Rattle.sts_verify.proofs.verified.verify.Given as goal

-- no place of the functions so far has a cause, and their budgets are known
abbrev pub invariant-loop-function : goal.invariant-loop-function
invariant-loop-function l = ((f : ℕ) → f < l.function → IsSound l.program f) × (length l.budgets.items ≡ l.function) × AreBudgets l.program l.budgets.items
