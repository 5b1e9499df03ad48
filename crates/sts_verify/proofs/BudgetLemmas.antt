-- Lemmas on the budgets of a program's functions: one function more has its budgets, and a function
-- has only one set of budgets.
use Rattle.std.proofs.Common.{◌≡◌, ℕ, zero, suc, ◌+◌, ◌<◌, ◌≤◌, ◌⊎◌, inl, inr, List, [], ◌∷◌, ◌++◌, length, take, arith, subst, sym, ap, refl, ◌∙◌}
use Rattle.std.proofs.Common.{length-append, length-take-le}
use Rattle.std.proofs.lemmas.Bool.{cases_lt}
use Rattle.std.proofs.lemmas.List.{take-append-le, get_or_append_left, get_or-take}
use Rattle.std.proofs.Math.Seq.{take-append_seam, get_or-append_seam}
use Rattle.sts_code.specs.Program.{Program, routine}
use Rattle.sts_rules.specs.declared.budget.Budgets.{Budgets}
use Rattle.sts_rules.specs.Budget.{AreBudgets, IsBudget, budget_at, no_budget}
use Rattle.sts_rules.specs.Refusal.{IsBudgetOf}
use Rattle.sts_rules.proofs.VerdictLemmas.{are_one, one_budget}

take_twice : {A : Type 0} (xs : List A) (n m : ℕ) → n ≤ m → take n (take m xs) ≡ take n xs
take_twice [] zero m le = refl
take_twice [] (suc n) zero le = absurd (omega arith)
take_twice [] (suc n) (suc m) le = refl
take_twice (x ∷ xs) zero m le = refl
take_twice (x ∷ xs) (suc n) zero le = absurd (omega arith)
take_twice (x ∷ xs) (suc n) (suc m) le = ap (λ (l : List _). x ∷ l) (take_twice xs n m (omega arith))

-- the budgets of one function more
pub budgets_more : (p : Program) (bs : List Budgets) (b : Budgets) (f : ℕ) → length bs ≡ f → AreBudgets p bs → IsBudget bs (routine p f).code b → (length (bs ++ b ∷ []) ≡ f + 1) × AreBudgets p (bs ++ b ∷ [])
budgets_more p bs b f long right here = (more, λ g lt. by g lt (cases_lt g f))
  where
    more : length (bs ++ b ∷ []) ≡ f + 1
    more = omega (arith, length-append bs (b ∷ []))

    by : (g : ℕ) → g < length (bs ++ b ∷ []) → (g < f) ⊎ (f ≤ g) → IsBudget (take g (bs ++ b ∷ [])) (routine p g).code (budget_at (bs ++ b ∷ []) g)
    by g lt (inl less) =
        let within : g < length bs = omega arith in
        let before = take-append-le g bs (b ∷ []) (omega arith) in
        let same = get_or_append_left bs (b ∷ []) no_budget g within in
        subst (λ xs. IsBudget xs (routine p g).code (budget_at (bs ++ b ∷ []) g)) (sym before) (subst (IsBudget (take g bs) (routine p g).code) (sym same) (right g within))
    by g lt (inr ge) =
        let is : f ≡ g = omega (arith, more) in
        let size : g ≡ length bs = omega arith in
        let whole = ap (λ n. take n (bs ++ b ∷ [])) size ∙ take-append_seam bs (b ∷ []) in
        let last = ap (λ n. budget_at (bs ++ b ∷ []) n) size ∙ get_or-append_seam bs b [] no_budget in
        subst (λ xs. IsBudget xs (routine p g).code (budget_at (bs ++ b ∷ []) g)) (sym whole) (subst (IsBudget bs (routine p g).code) (sym last) (subst (λ q. IsBudget bs (routine p q).code b) is here))

-- one of the budgets of a program
pub budget_is : (p : Program) (bs : List Budgets) (f : ℕ) → f < length bs → AreBudgets p bs → (b : Budgets) → b ≡ budget_at bs f → IsBudgetOf p f b
budget_is p bs f lt right b is = (
  take f bs,
  (
    length-take-le f bs (omega arith),
    (λ g less. (let below : g < f = omega (arith, length-take-le f bs (omega arith)) in
        subst (λ xs. IsBudget xs (routine p g).code (budget_at (take f bs) g)) (sym (take_twice bs g f (omega arith))) (subst (IsBudget (take g bs) (routine p g).code) (sym (get_or-take f bs g no_budget below)) (right g (omega arith))))),
    subst (IsBudget (take f bs) (routine p f).code) (sym is) (right f lt),
  ),
)

-- two budgets of a function are the same
pub budget_of-one : (p : Program) (f : ℕ) (b c : Budgets) → IsBudgetOf p f b → IsBudgetOf p f c → b ≡ c
budget_of-one p f b c (bs, (long, right, is)) (cs, (size, good, has)) =
    one_budget cs (routine p f).code b c (subst (λ xs. IsBudget xs (routine p f).code b) (are_one p bs cs (long ∙ sym size) right good) is) has
