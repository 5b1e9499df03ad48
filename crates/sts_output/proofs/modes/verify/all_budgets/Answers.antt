use Rattle.std.proofs.Common.{◌≡◌, ℕ, ◌+◌, ◌<◌, List, [], ◌∷◌, ◌++◌, length, sym, ap, subst, arith, ◌∙◌}
use Rattle.std.proofs.lemmas.List.{get_or_append_left, get_or_push, length-append}
use Rattle.sts_rules.specs.declared.budget.Budgets.{Budgets}
use Rattle.sts_code.specs.Program.{Program}
use Rattle.sts_rules.specs.Budget.{budget_at, no_budget}
use Rattle.sts_rules.specs.Refusal.{IsBudgetOf}
use Rattle.sts_output.proofs.modes.verify.all_budgets.Goals as goal
use borrow.Author.Count.{below_more}

-- a function's budget behind those of the functions before it
one_more : (p : Program) (old : List Budgets) (b : Budgets) (n : ℕ) → length old ≡ n → ((f : ℕ) → f < n → IsBudgetOf p f (budget_at old f)) → IsBudgetOf p n b → (f : ℕ) → f < n + 1 → IsBudgetOf p f (budget_at (old ++ b ∷ []) f)
one_more p old b n count each is = below_more (λ f. IsBudgetOf p f (budget_at (old ++ b ∷ []) f)) n
    (λ f h. subst (λ x. IsBudgetOf p f x) (sym (get_or_append_left old (b ∷ []) no_budget f (omega (arith, count, h)))) (each f h))
    (subst (λ x. IsBudgetOf p n x) (sym (get_or_push old b no_budget n count)) is)

pub loop-function-preserved : goal.loop-function-preserved
loop-function-preserved c =
    let so_far = c.loop-function.invariant in
    let p = c.args.verified.now in
    let n = c.loop-function.function in
    let more : c.push.new.self.items ≡ c.loop-function.budgets.items ++ c.budgets.result ∷ [] = c.in_ok-push.ensures.items in
    record {
      count = ap length more ∙ length-append c.loop-function.budgets.items (c.budgets.result ∷ []) ∙ omega (arith, so_far.count);
      each = subst (λ (xs : List Budgets). (f : ℕ) → f < n + 1 → IsBudgetOf p f (budget_at xs f)) (sym more)
          (one_more p c.loop-function.budgets.items c.budgets.result n so_far.count so_far.each c.budgets.ensures);
    }
