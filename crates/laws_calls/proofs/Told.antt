-- The ends that the joiner of a scope was told of.
use Rattle.std.proofs.Common.{◌≡◌, ℕ, ◌+◌, ◌≤◌, inl, inr, List, [], ◌∷◌, Bool, true, false, Some, None, refl, sym, ◌∙◌, ap, subst, arith, cond, ◌||◌}
use Rattle.std.specs.Prelude.{◌==◌, find, count_by, negsuc}
use Rattle.std.specs.List.{list_any}
use Rattle.std.proofs.lemmas.Bool.Decides.{nat_tests}
use Rattle.std.proofs.lemmas.List.Sums.{sum_by-cons}
use Rattle.std.proofs.lemmas.Option.{same_Some}
use Rattle.sts_model.specs.declared.event.End.{End}
use Rattle.sts_model.specs.declared.event.End.TheVariants.{Success, Failed}
use Rattle.sts_model.specs.declared.event.Verdict.{Verdict}
use Rattle.sts_model.specs.declared.event.Verdict.TheVariants as verdict
use Rattle.sts_model.specs.declared.record.Completion.{Completion}
use Rattle.sts_model.specs.Living.{completion_of, ends_of}
use Rattle.sts_model.specs.Joining.{is_success, is_failure, verdict_or}
pub use Rattle.laws_runs.proofs.CompletionLemmas.{Test, EndOf}
use Rattle.laws_calls.specs.Tasks.{Among}

-- ---- ends of completions

-- a task with a completion is counted
pub counted : (cs : List Completion) (u : ℕ) (e : End) → completion_of cs u ≡ Some e → 1 ≤ count_by (Test u) cs
counted [] u e h = cc
counted (c ∷ cs) u e h = by (c.task == u) (sum_by-cons (λ (x : Completion). cond (Test u x) 1 0) c cs) h (counted cs u e)
  where
    by : (b : Bool) → count_by (Test u) (c ∷ cs) ≡ cond b 1 0 + count_by (Test u) cs → EndOf (cond b (Some c) (find (Test u) cs)) ≡ Some e → (completion_of cs u ≡ Some e → 1 ≤ count_by (Test u) cs) → 1 ≤ count_by (Test u) (c ∷ cs)
    by true n k next = omega (arith, n)
    by false n k next = let r = next k in omega (arith, n, r)

-- if each task has one completion at most, it has one at most among the rest
pub rest_once : (c : Completion) (cs : List Completion) → ((u : ℕ) → count_by (Test u) (c ∷ cs) ≤ 1) → (u : ℕ) → count_by (Test u) cs ≤ 1
rest_once c cs once u = let n = sum_by-cons (λ (x : Completion). cond (Test u x) 1 0) c cs in let o = once u in omega (arith, n, o)

-- and each end is that of a task
pub who : (cs : List Completion) → ((u : ℕ) → count_by (Test u) cs ≤ 1) → (e : End) → Among (ends_of cs) e → (u : ℕ) × (completion_of cs u ≡ Some e)
who [] once e at = absurd at
who (c ∷ cs) once e (inl same) = (c.task, by (c.task == c.task) (grind (arith, nat_tests)))
  where
    by : (b : Bool) → b ≡ true → EndOf (cond b (Some c) (find (Test c.task) cs)) ≡ Some e
    by true k = ap Some same
    by false k = cc
who (c ∷ cs) once e (inr at) = from (who cs (rest_once c cs once) e at)
  where
    from : (u : ℕ) × (completion_of cs u ≡ Some e) → (u : ℕ) × (completion_of (c ∷ cs) u ≡ Some e)
    from r = (r.0, by (c.task == r.0) (sum_by-cons (λ (x : Completion). cond (Test r.0 x) 1 0) c cs))
      where
        by : (b : Bool) → count_by (Test r.0) (c ∷ cs) ≡ cond b 1 0 + count_by (Test r.0) cs → EndOf (cond b (Some c) (find (Test r.0) cs)) ≡ Some e
        by true n = let o = once r.0 in let more = counted cs r.0 e r.1 in absurd (omega (arith, n, o, more))
        by false n = r.1

pub state_among : (cs : List Completion) (u : ℕ) (e : End) → completion_of cs u ≡ Some e → Among (ends_of cs) e
state_among [] u e h = cc
state_among (c ∷ cs) u e h = by (c.task == u) h (state_among cs u e)
  where
    by : (b : Bool) → EndOf (cond b (Some c) (find (Test u) cs)) ≡ Some e → (completion_of cs u ≡ Some e → Among (ends_of cs) e) → Among (ends_of (c ∷ cs)) e
    by true k next = inl (same_Some c.end e k)
    by false k next = inr (next k)

-- ---- the first end that passes

pub record First (test : End → Bool) (es : List End) : Type 0 where
  pub end : End
  pub first : find test es ≡ Some end
  pub passes : test end ≡ true
  pub there : Among es end

pub first_end : (test : End → Bool) (es : List End) → list_any test es ≡ true → First test es
first_end test [] e = cc
first_end test (x ∷ es) e = by (test x) refl e (λ k. first_end test es k)
  where
    found : test x ≡ true → First test (x ∷ es)
    found is = record { end = x; first = ap (λ b. cond b (Some x) (find test es)) is; passes = is; there = inl refl }

    later : test x ≡ false → First test es → First test (x ∷ es)
    later not r = record { end = r.end; first = ap (λ b. cond b (Some x) (find test es)) not ∙ r.first; passes = r.passes; there = inr r.there }

    by : (b : Bool) → test x ≡ b → (b || list_any test es) ≡ true → (list_any test es ≡ true → First test es) → First test (x ∷ es)
    by true is k next = found is
    by false is k next = later is (next k)

pub find_none : (test : End → Bool) (es : List End) → list_any test es ≡ false → find test es ≡ None
find_none test [] e = refl
find_none test (x ∷ es) e = by (test x) e (find_none test es)
  where
    by : (b : Bool) → (b || list_any test es) ≡ false → (list_any test es ≡ false → find test es ≡ None) → cond b (Some x) (find test es) ≡ None
    by true k next = cc
    by false k next = next k

pub none_passes : (test : End → Bool) (es : List End) (e : End) → list_any test es ≡ false → Among es e → test e ≡ false
none_passes test [] e k at = absurd at
none_passes test (x ∷ es) e k at = by (test x) refl k at (none_passes test es e)
  where
    by : (b : Bool) → test x ≡ b → (b || list_any test es) ≡ false → Among (x ∷ es) e → (list_any test es ≡ false → Among es e → test e ≡ false) → test e ≡ false
    by true is k2 at2 next = cc
    by false is k2 (inl same) next = subst (λ z. test z ≡ false) same is
    by false is k2 (inr at2) next = next k2 at2

-- ---- verdicts

verdict_some : (e : End) (a b : Verdict) → verdict_or (Some e) a ≡ verdict_or (Some e) b
verdict_some (Success v) a b = refl
verdict_some (Failed c) a b = refl

-- the first end that passes decides alone
pub one_verdict : (test : End → Bool) (es : List End) (o : First test es) (a b : Verdict) → verdict_or (find test es) a ≡ verdict_or (find test (o.end ∷ [])) b
one_verdict test es o a b =
    ap (λ q. verdict_or q a) o.first ∙ verdict_some o.end a b
    ∙ sym (ap (λ c. verdict_or (cond c (Some o.end) (find test [])) b) o.passes)

-- under `any`, a failure is reported if there is no success
pub any_verdict : (e : End) → is_failure e ≡ true
    → verdict_or (Some e) (verdict.Failed (negsuc 0)) ≡ verdict_or (find is_success (e ∷ [])) (verdict_or (find is_failure (e ∷ [])) (verdict.Failed (negsuc 0)))
any_verdict (Failed c) is = refl
any_verdict (Success v) is = cc

pub neither : (e : End) → is_success e ≡ false → is_failure e ≡ false → ⊥
neither (Success v) a b = cc
neither (Failed c) a b = cc
