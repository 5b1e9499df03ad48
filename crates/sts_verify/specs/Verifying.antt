-- The errors that the verifier reports (this project's own).
use Rattle.std.specs.Prelude.{◌≡◌, ℕ}
use Rattle.sts_code.specs.Program.{Program}
use Rattle.sts_budget.specs.declared.budgets.BudgetError.{BudgetError}
use Rattle.sts_budget.specs.declared.budgets.BudgetError.TheVariants as budgets
use Rattle.sts_rules.specs.Refusal.{IsRefusal, IsUnsound}
use Rattle.sts_types.specs.declared.pass.TypeError.{TypeError}
use Rattle.sts_types.specs.declared.pass.TypeError.TheVariants as typing
use Rattle.sts_verify.specs.declared.error.VerifyError.{VerifyError}
use Rattle.sts_verify.specs.declared.error.VerifyError.TheVariants.{Memory, Refused}

-- the program is given back; a refusal is the first place of the program with a cause, and the
-- cause that is named there
abbrev pub Tells : Program → VerifyError → Type 0
Tells given (Memory p) = p ≡ given
Tells given (Refused p f pc cause) = (p ≡ given) × IsRefusal given f pc cause

-- the refusal of a function, as an error of the program
abbrev pub told : Program → ℕ → TypeError → VerifyError
told p f typing.Memory = Memory p
told p f (typing.Refused pc cause) = Refused p f pc cause

-- a refusal names the first place of the function with a cause, and one cause there; running out of
-- memory promises nothing
abbrev pub TellsOf : Program → ℕ → TypeError → Type 0
TellsOf p f typing.Memory = Unit {0}
TellsOf p f (typing.Refused pc cause) = IsUnsound p f pc cause

-- a budget over its limit is reported at the place after the last of `count` instructions
abbrev pub at_end : ℕ → BudgetError → TypeError
at_end count budgets.Memory = typing.Memory
at_end count (budgets.TooMuch cause) = typing.Refused count cause
