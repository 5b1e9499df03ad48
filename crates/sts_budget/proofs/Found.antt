-- From the four numbers to the answer.
use Rattle.std.proofs.Common.{◌≡◌, ℕ, ◌<◌, ◌≤◌, List, Result, Ok, Err, sym, subst, arith}
use Rattle.std.specs.Result.{IsErrAnd}
use Rattle.sts_code.specs.declared.instr.Instr.{Instr}
use Rattle.sts_rules.specs.declared.budget.Budgets.{Budgets}
use Rattle.sts_rules.specs.declared.typing.Cause.{Cause}
use Rattle.sts_rules.specs.declared.typing.Cause.TheVariants as cause
use Rattle.sts_rules.specs.Causes.{cause_number}
use Rattle.sts_rules.specs.Budget.{Exceeds, IsLeastExcess}
use Rattle.sts_budget.specs.declared.change.Resource.{Resource}
use Rattle.sts_budget.specs.declared.change.Resource.TheVariants.{Steps, Tasks, Scopes, Binds}
use Rattle.sts_budget.specs.declared.budgets.BudgetError.{BudgetError}
use Rattle.sts_budget.specs.declared.budgets.BudgetError.TheVariants.{Memory, TooMuch}
use Rattle.sts_budget.specs.Change.{cause_of, limit_of, IsMost}
use Rattle.sts_budget.specs.Outcome.{IsFound, IsNumber}
use Rattle.sts_budget.proofs.LastTurns.{no_excess, least_excess}

-- no resource before this one is over its limit
abbrev pub NoneBefore : Resource → List Budgets → List Instr → Type 0
NoneBefore k earlier code = (j : Resource) → cause_number (cause_of j) < cause_number (cause_of k) → Exceeds earlier code (cause_of j) → ⊥

-- a number within its limit
abbrev pub IsWithin : Resource → List Budgets → List Instr → ℕ → Type 0
IsWithin k earlier code m = IsMost k earlier code m × (m ≤ limit_of k)

pub before_steps : (earlier : List Budgets) (code : List Instr) → NoneBefore Steps earlier code
before_steps earlier code Steps lt e = omega arith
before_steps earlier code _ lt e = omega arith

pub before_tasks : (earlier : List Budgets) (code : List Instr) (s : ℕ) → IsWithin Steps earlier code s → NoneBefore Tasks earlier code
before_tasks earlier code s hs Steps lt e = no_excess Steps earlier code s hs.0 hs.1 e
before_tasks earlier code s hs _ lt e = omega arith

pub before_scopes : (earlier : List Budgets) (code : List Instr) (s t : ℕ) → IsWithin Steps earlier code s → IsWithin Tasks earlier code t → NoneBefore Scopes earlier code
before_scopes earlier code s t hs ht Steps lt e = no_excess Steps earlier code s hs.0 hs.1 e
before_scopes earlier code s t hs ht Tasks lt e = no_excess Tasks earlier code t ht.0 ht.1 e
before_scopes earlier code s t hs ht Scopes lt e = omega arith
before_scopes earlier code s t hs ht Binds lt e = omega arith

pub before_binds : (earlier : List Budgets) (code : List Instr) (s t o : ℕ) → IsWithin Steps earlier code s → IsWithin Tasks earlier code t → IsWithin Scopes earlier code o → NoneBefore Binds earlier code
before_binds earlier code s t o hs ht ho Steps lt e = no_excess Steps earlier code s hs.0 hs.1 e
before_binds earlier code s t o hs ht ho Tasks lt e = no_excess Tasks earlier code t ht.0 ht.1 e
before_binds earlier code s t o hs ht ho Scopes lt e = no_excess Scopes earlier code o ho.0 ho.1 e
before_binds earlier code s t o hs ht ho Binds lt e = omega arith

pub found_error : (k : Resource) (earlier : List Budgets) (code code' : List Instr) → code ≡ code' → NoneBefore k earlier code → (e : BudgetError) → IsNumber k earlier code (Err e) → (r : Result Budgets BudgetError) → IsErrAnd r (λ x. x ≡ e) → IsFound earlier code' r
found_error k earlier code code' same before e h (Ok b) a = absurd a
found_error k earlier code code' same before Memory h (Err x) a = subst (λ y. IsFound earlier code' (Err y)) (sym a) tt
found_error k earlier code code' same before (TooMuch c) h (Err x) a =
    let least = least_excess k earlier code h.1 before in
    subst (λ y. IsFound earlier code' (Err y)) (sym a) (subst (λ xs. IsLeastExcess earlier xs c) same (subst (IsLeastExcess earlier code) (sym h.0) least))

none_exceeds : (earlier : List Budgets) (code : List Instr) (s t o b : ℕ) → IsWithin Steps earlier code s → IsWithin Tasks earlier code t → IsWithin Scopes earlier code o → IsWithin Binds earlier code b → (c : Cause) → Exceeds earlier code c → ⊥
none_exceeds earlier code s t o b hs ht ho hb cause.TooManySteps e = no_excess Steps earlier code s hs.0 hs.1 e
none_exceeds earlier code s t o b hs ht ho hb cause.TooManyTasks e = no_excess Tasks earlier code t ht.0 ht.1 e
none_exceeds earlier code s t o b hs ht ho hb cause.TooManyScopes e = no_excess Scopes earlier code o ho.0 ho.1 e
none_exceeds earlier code s t o b hs ht ho hb cause.TooManyBinds e = no_excess Binds earlier code b hb.0 hb.1 e
none_exceeds earlier code s t o b hs ht ho hb _ e = e

pub found_all : (earlier : List Budgets) (code code' : List Instr) → code ≡ code' → (s t o b : ℕ) → IsWithin Steps earlier code s → IsWithin Tasks earlier code t → IsWithin Scopes earlier code o → IsWithin Binds earlier code b → IsFound earlier code' (Ok (record { steps = s; tasks = t; scopes = o; binds = b }))
found_all earlier code code' same s t o b hs ht ho hb = subst (λ xs. IsFound earlier xs (Ok (record { steps = s; tasks = t; scopes = o; binds = b }))) same (record { steps = hs.0; tasks = ht.0; scopes = ho.0; binds = hb.0 }, none_exceeds earlier code s t o b hs ht ho hb)
