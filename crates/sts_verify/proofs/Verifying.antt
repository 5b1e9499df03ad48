-- Function by function.
use Rattle.std.proofs.Common.{◌≡◌, ℕ, ◌+◌, ◌<◌, ◌≤◌, ◌⊎◌, inl, inr, List, [], ◌∷◌, ◌++◌, length, Err, arith, subst, sym, ap, refl, ◌∙◌, Result, Ok, MatchResult}
use Rattle.std.specs.Result.{IsErrAnd}
use Rattle.std.proofs.lemmas.Bool.{cases_lt}
use Rattle.sts_code.specs.Program.{Program, routine}
use Rattle.sts_budget.specs.declared.budgets.BudgetError.{BudgetError}
use Rattle.sts_budget.specs.declared.budgets.BudgetError.TheVariants as b
use Rattle.sts_budget.specs.Outcome.{IsFound}
use Rattle.sts_rules.specs.declared.budget.Budgets.{Budgets}
use Rattle.sts_rules.specs.Budget.{AreBudgets}
use Rattle.sts_rules.specs.Refusal.{IsSound, IsAccepted, IsWellTyped, IsUnsound, ill_typed, too_much, size}
use Rattle.sts_types.specs.declared.pass.TypeError.{TypeError}
use Rattle.sts_types.specs.declared.pass.TypeError.TheVariants.{Memory, Refused}
use Rattle.sts_types.specs.Typing.{Tells as TellsOfTyping}
use Rattle.sts_verify.specs.Verifying.{Tells, TellsOf, told, at_end}
use Rattle.sts_verify.proofs.BudgetLemmas.{budgets_more}

-- one function more
pub sound_more : (p : Program) (k : ℕ) → ((f : ℕ) → f < k → IsSound p f) → IsSound p k → (f : ℕ) → f < k + 1 → IsSound p f
sound_more p k before here f lt = by (cases_lt f k)
  where
    by : (f < k) ⊎ (k ≤ f) → IsSound p f
    by (inl less) = before f less
    by (inr le) = let same : k ≡ f = omega arith in subst (IsSound p) same here

-- all functions
pub accepts : (p : Program) (k : ℕ) → ((f : ℕ) → f < k → IsSound p f) → length p.routines ≤ k → IsAccepted p
accepts p k sound all = record { sound = λ f lt. (let less : f < k = omega arith in sound f less) }

-- the first function that is refused
pub tells : (p : Program) (f : ℕ) (e : TypeError) → f < length p.routines → ((earlier : ℕ) → earlier < f → IsSound p earlier) → TellsOf p f e → Tells p (told p f e)
tells p f Memory lt before t = refl
tells p f (Refused pc cause) lt before t = (refl, (lt, t, before))

-- a refusal of the typing is one of the function
pub typing_tells : (p : Program) (f : ℕ) (e : TypeError) → TellsOfTyping p f e → TellsOf p f e
typing_tells p f Memory t = tt
typing_tells p f (Refused pc cause) t = ill_typed t

pub typing_refused : {A : Type 0} (p : Program) (f : ℕ) (e : TypeError) (r : Result A TypeError) (P : A → Type 0) → TellsOfTyping p f e → IsErrAnd r (λ x. x ≡ e) → MatchResult r P (TellsOf p f)
typing_refused p f e (Ok x) P t a = absurd a
typing_refused p f e (Err x) P t a = subst (TellsOf p f) (sym a) (typing_tells p f e t)

-- a function whose budgets are found
pub budgets_found : (p : Program) (f : ℕ) (bs now : List Budgets) (b : Budgets) → IsWellTyped p f → length bs ≡ f → AreBudgets p bs → IsFound bs (routine p f).code (Ok b) → now ≡ bs ++ b ∷ [] → IsSound p f × (length now ≡ f + 1) × AreBudgets p now
budgets_found p f bs now b typed long right found is =
    let more = budgets_more p bs b f long right found.0 in
    (record { typed = typed; earlier = bs; long = long; right = right; within = found.1 }, ap length is ∙ more.0, subst (AreBudgets p) (sym is) more.1)

-- a function that the search for budgets refuses
pub budget_tells : (p : Program) (f : ℕ) (bs : List Budgets) (e : BudgetError) (count : ℕ) → IsWellTyped p f → length bs ≡ f → AreBudgets p bs → count ≡ size p f → IsFound bs (routine p f).code (Err e) → TellsOf p f (at_end count e)
budget_tells p f bs b.Memory count typed long right is found = tt
budget_tells p f bs (b.TooMuch c) count typed long right is found = subst (λ n. IsUnsound p f n c) (sym is) (too_much bs typed long right found)
