-- Tallies: each subtask that completed is counted once, by the state it completed with.
use Rattle.std.proofs.Common.{◌≡◌, ℕ, zero, suc, ◌+◌, ◌<◌, ◌≤◌, List, [], ◌∷◌, Bool, true, false, Option, Some, None, refl, sym, ◌∙◌, ap, length, arith, get_or}
use Rattle.std.proofs.Common.{cond, ◌&&◌}
use Rattle.std.specs.Prelude.{◌==◌, find, count_by, is_some, is_none}
use Rattle.std.specs.List.{range_with_len}
use Rattle.std.proofs.lemmas.Bool.Decides.{nat_tests}
use Rattle.std.proofs.Math.Bool.{and-false}
use Rattle.laws_words.proofs.ListLemmas.{count-cons}
use Rattle.sts_code.specs.declared.instr.Kind.{Kind}
use Rattle.sts_code.specs.declared.instr.Kind.TheVariants.{S, F, U}
use Rattle.sts_model.specs.declared.event.End.{End}
use Rattle.sts_model.specs.declared.event.End.TheVariants.{Success, Failed}
use Rattle.sts_model.specs.declared.record.Task.{Task}
use Rattle.sts_model.specs.declared.record.Completion.{Completion}
use Rattle.sts_model.specs.World.{World, task_at, scope_at, no_task}
use Rattle.sts_model.specs.Joining as joining
use Rattle.sts_model.specs.Living.{is_subtask, subtask_count, ends_of, completion_of, sub_state, parent}
use Rattle.sts_model.specs.Misuse.{has_succeeded, has_failed}
use Rattle.sts_model.specs.Effect.{tally}
use Rattle.laws_runs.proofs.ListLemmas.{within}
use Rattle.laws_runs.proofs.EffectLemmas.{is_in-some, some-is_in}
use Rattle.laws_runs.proofs.CompletionLemmas.{ToldIn, Test, EndOf}
use Rattle.laws_runs.proofs.EventLemmas.{ever}
use Rattle.laws_runs.specs.Tallies.{is_kind, is_in_state, births, number_in, IsTallied, TalliesAreCounts}

-- ---- counts

-- of numbers from a on
count-same : (Q R : ℕ → Bool) (a n : ℕ) → ((u : ℕ) → a ≤ u → R u ≡ Q u) → count_by R (range_with_len a n) ≡ count_by Q (range_with_len a n)
count-same Q R a zero same = refl
count-same Q R a (suc n) same =
    let rest = count-same Q R (a + 1) n (λ u more. same u (omega (arith, more))) in
    let head : cond {A = ℕ} (R a) 1 0 ≡ cond (Q a) 1 0 = ap (λ b. cond b 1 0) (same a (omega arith)) in
    let q = count-cons Q a (range_with_len (a + 1) n) in
    let r = count-cons R a (range_with_len (a + 1) n) in
    omega (arith, rest, head, q, r)

count-none : (Q : ℕ → Bool) (a n : ℕ) → ((u : ℕ) → Q u ≡ false) → count_by Q (range_with_len a n) ≡ 0
count-none Q a zero none = refl
count-none Q a (suc n) none =
    let rest = count-none Q (a + 1) n none in
    let head : cond {A = ℕ} (Q a) 1 0 ≡ 0 = ap (λ b. cond b 1 0) (none a) in
    let q = count-cons Q a (range_with_len (a + 1) n) in
    omega (arith, rest, head, q)

-- two tests that differ at one number, which the first doesn't pass
count-point : (Q R : ℕ → Bool) (t a n : ℕ) → ((u : ℕ) → (u ≡ t → ⊥) → R u ≡ Q u) → Q t ≡ false → a ≤ t → t < a + n → count_by R (range_with_len a n) ≡ count_by Q (range_with_len a n) + cond (R t) 1 0
count-point Q R t a zero same out low high = absurd (omega (arith, low, high))
count-point Q R t a (suc n) same out low high = by (a == t) refl (λ other. count-point Q R t (a + 1) n same out (omega (arith, low, other)) (omega (arith, high)))
  where
    q : count_by Q (a ∷ range_with_len (a + 1) n) ≡ cond (Q a) 1 0 + count_by Q (range_with_len (a + 1) n)
    q = count-cons Q a (range_with_len (a + 1) n)

    r : count_by R (a ∷ range_with_len (a + 1) n) ≡ cond (R a) 1 0 + count_by R (range_with_len (a + 1) n)
    r = count-cons R a (range_with_len (a + 1) n)

    by : (b : Bool) → (a == t) ≡ b → ((a ≡ t → ⊥) → count_by R (range_with_len (a + 1) n) ≡ count_by Q (range_with_len (a + 1) n) + cond (R t) 1 0) → count_by R (a ∷ range_with_len (a + 1) n) ≡ count_by Q (a ∷ range_with_len (a + 1) n) + cond (R t) 1 0
    by true e next =
        let is : a ≡ t = grind (arith, nat_tests) in
        let rest = count-same Q R (a + 1) n (λ u more. same u (λ d. omega (arith, more, d, is))) in
        let here : cond {A = ℕ} (R a) 1 0 ≡ cond (R t) 1 0 = ap (λ u. cond (R u) 1 0) is in
        let none : cond {A = ℕ} (Q a) 1 0 ≡ 0 = ap (λ b. cond b 1 0) (ap Q is ∙ out) in
        omega (arith, q, r, rest, here, none)
    by false e next =
        let other : a ≡ t → ⊥ = λ d. grind (arith, nat_tests) in
        let rest = next other in
        let head : cond {A = ℕ} (R a) 1 0 ≡ cond (Q a) 1 0 = ap (λ b. cond b 1 0) (same a other) in
        omega (arith, q, r, rest, head)

-- a test that is passed if and only if one of two tests is
count-split : (A B C : ℕ → Bool) (xs : List ℕ) → ((u : ℕ) → cond {A = ℕ} (A u) 1 0 + cond (B u) 1 0 ≡ cond (C u) 1 0) → count_by A xs + count_by B xs ≡ count_by C xs
count-split A B C [] each = refl
count-split A B C (x ∷ xs) each =
    let rest = count-split A B C xs each in
    let head = each x in
    let a = count-cons A x xs in
    let b = count-cons B x xs in
    let c = count-cons C x xs in
    omega (arith, rest, head, a, b, c)

count-shift : (Q : ℕ → Bool) (a n : ℕ) → count_by Q (range_with_len (a + 1) n) ≡ count_by (λ u. Q (u + 1)) (range_with_len a n)
count-shift Q a zero = refl
count-shift Q a (suc n) =
    let rest = count-shift Q (a + 1) n in
    let q = count-cons Q (a + 1) (range_with_len (a + 1 + 1) n) in
    let r = count-cons (λ u. Q (u + 1)) a (range_with_len (a + 1) n) in
    omega (arith, rest, q, r)

-- the count over a list, and the count over its places
count-places : {X : Type 0} (test : X → Bool) (xs : List X) (d : X) → count_by (λ u. test (get_or xs u d)) (range_with_len 0 (length xs)) ≡ count_by test xs
count-places test [] d = refl
count-places test (x ∷ xs) d =
    let rest = count-places test xs d in
    let head = count-cons (λ u. test (get_or (x ∷ xs) u d)) 0 (range_with_len 1 (length xs)) in
    let shift = count-shift (λ u. test (get_or (x ∷ xs) u d)) 0 (length xs) in
    let same = count-same (λ u. test (get_or xs u d)) (λ u. test (get_or (x ∷ xs) (u + 1) d)) 0 (length xs) (λ u more. let one : u + 1 ≡ suc u = omega arith in ap (λ n. test (get_or (x ∷ xs) n d)) one) in
    let q = count-cons test x xs in
    omega (arith, rest, head, shift, same, q)

-- ---- completions

-- what is counted nowhere has no completion
uncounted : (cs : List Completion) (u : ℕ) → count_by (Test u) cs ≡ 0 → completion_of cs u ≡ None
uncounted [] u e = refl
uncounted (c ∷ cs) u e = by (c.task == u) (count-cons (Test u) c cs) (uncounted cs u)
  where
    by : (b : Bool) → count_by (Test u) (c ∷ cs) ≡ cond b 1 0 + count_by (Test u) cs → (count_by (Test u) cs ≡ 0 → completion_of cs u ≡ None) → EndOf (cond b (Some c) (find (Test u) cs)) ≡ None
    by true k next = absurd (omega (arith, k, e))
    by false k next = next (omega (arith, k, e))

-- the first completion is found by its task
pub first : (c : Completion) (cs : List Completion) → completion_of (c ∷ cs) c.task ≡ Some c.end
first c cs = by (c.task == c.task) (grind (arith, nat_tests))
  where
    by : (b : Bool) → b ≡ true → EndOf (cond b (Some c) (find (Test c.task) cs)) ≡ Some c.end
    by true e = refl
    by false e = cc

pub others : (c : Completion) (cs : List Completion) (u : ℕ) → (u ≡ c.task → ⊥) → completion_of (c ∷ cs) u ≡ completion_of cs u
others c cs u other = by (c.task == u) refl
  where
    by : (b : Bool) → (c.task == u) ≡ b → EndOf (cond b (Some c) (find (Test u) cs)) ≡ EndOf (find (Test u) cs)
    by true e = absurd (other (grind (arith, nat_tests)))
    by false e = refl

-- each task completes once, and is one of those inside
record Counted (inside : ℕ → Bool) (n : ℕ) (cs : List Completion) : Type 0 where
  pub there : (u : ℕ) (end : End) → completion_of cs u ≡ Some end → (inside u ≡ true) × (u < n)
  pub once : (u : ℕ) → count_by (Test u) cs ≤ 1

fresh : (inside : ℕ → Bool) (n : ℕ) (c : Completion) (cs : List Completion) → Counted inside n (c ∷ cs) → completion_of cs c.task ≡ None
fresh inside n c cs h =
    let k = count-cons (Test c.task) c cs in
    let self : (c.task == c.task) ≡ true = grind (arith, nat_tests) in
    let one : cond {A = ℕ} (c.task == c.task) 1 0 ≡ 1 = ap (λ b. cond b 1 0) self in
    let most = h.once c.task in
    uncounted cs c.task (omega (arith, k, one, most))

counted-rest : (inside : ℕ → Bool) (n : ℕ) (c : Completion) (cs : List Completion) → Counted inside n (c ∷ cs) → Counted inside n cs
counted-rest inside n c cs h =
    record {
      there = λ u end e.
          let other : u ≡ c.task → ⊥ = λ same. (let none : completion_of cs u ≡ None = ap (completion_of cs) same ∙ fresh inside n c cs h in let never : Some end ≡ None = sym e ∙ none in cc) in
          h.there u end (others c cs u other ∙ e);
      once = λ u. let k = count-cons (Test u) c cs in let most = h.once u in omega (arith, k, most);
    }

-- so the number of subtasks in a state is the number that completed in it
count-completed : (inside : ℕ → Bool) (n : ℕ) (P : Option End → Bool) → P None ≡ false → (cs : List Completion) → Counted inside n cs → count_by (λ u. inside u && P (completion_of cs u)) (range_with_len 0 n) ≡ count_by (λ (c : Completion). P (Some c.end)) cs
count-completed inside n P none [] h = count-none _ 0 n (λ u. rw none (and-false (inside u)))
count-completed inside n P none (c ∷ cs) h =
    let t : ℕ = c.task in
    let before = count-completed inside n P none cs (counted-rest inside n c cs h) in
    let here = h.there t c.end (first c cs) in
    let high = here.1 in
    let out : (inside t && P (completion_of cs t)) ≡ false = rw (fresh inside n c cs h, none) (and-false (inside t)) in
    let step = count-point (λ u. inside u && P (completion_of cs u)) (λ u. inside u && P (completion_of (c ∷ cs) u)) t 0 n (λ u other. ap (λ o. inside u && P o) (others c cs u other)) out (omega arith) (omega (arith, high)) in
    let new : cond {A = ℕ} (inside t && P (completion_of (c ∷ cs) t)) 1 0 ≡ cond (P (Some c.end)) 1 0 = rw (here.0, first c cs) refl in
    let k = count-cons (λ (x : Completion). P (Some x.end)) c cs in
    omega (arith, before, step, new, k)

-- each state is of one kind
pub kinds : (qs : List (Option End)) → count_by (is_kind S) qs + count_by (is_kind F) qs + count_by (is_kind U) qs ≡ length qs
kinds [] = refl
kinds (q ∷ qs) =
    let a = count-cons (is_kind S) q qs in
    let b = count-cons (is_kind F) q qs in
    let c = count-cons (is_kind U) q qs in
    let one = kind q in
    let rest = kinds qs in
    omega (arith, a, b, c, one, rest)
  where
    kind : (y : Option End) → cond {A = ℕ} (is_kind S y) 1 0 + cond (is_kind F y) 1 0 + cond (is_kind U y) 1 0 ≡ 1
    kind None = refl
    kind (Some (Success v)) = refl
    kind (Some (Failed c)) = refl

-- of completions, and of ends
count-ends : (P : Option End → Bool) (test : End → Bool) → ((e : End) → P (Some e) ≡ test e) → (cs : List Completion) → count_by (λ (c : Completion). P (Some c.end)) cs ≡ count_by test (ends_of cs)
count-ends P test same [] = refl
count-ends P test same (c ∷ cs) =
    let rest = count-ends P test same cs in
    let head : cond {A = ℕ} (P (Some c.end)) 1 0 ≡ cond (test c.end) 1 0 = ap (λ b. cond b 1 0) (same c.end) in
    let q = count-cons (λ (x : Completion). P (Some x.end)) c cs in
    let r = count-cons test c.end (ends_of cs) in
    omega (arith, rest, head, q, r)

count-all : (cs : List Completion) → count_by (λ (c : Completion). is_some (Some c.end)) cs ≡ length cs
count-all [] = refl
count-all (c ∷ cs) = let rest = count-all cs in let q = count-cons (λ (x : Completion). is_some (Some x.end)) c cs in omega (arith, rest, q)

-- ---- subtasks of one scope

same_success : (e : End) → has_succeeded (Some e) ≡ joining.is_success e
same_success (Success v) = refl
same_success (Failed c) = refl

same_failure : (e : End) → has_failed (Some e) ≡ joining.is_failure e
same_failure (Success v) = refl
same_failure (Failed c) = refl

module _ (w : World) (s : ℕ) (told : ToldIn w.tasks s (scope_at w s)) where
  abbrev cs : List Completion
  cs = (scope_at w s).completions

  abbrev inside : ℕ → Bool
  inside u = is_subtask s (task_at w u)

  -- the number of subtasks in a state that passes a test
  abbrev number : (Option End → Bool) → ℕ
  number P = count_by (λ u. inside u && P (completion_of cs u)) (births w)

  counted : Counted inside (length w.tasks) cs
  counted =
      record {
        there = λ u end e.
            let is = told.subtask u end e in
            let some : is_some (task_at w u).scope ≡ true = rw is refl in
            (is_in-some s (task_at w u).scope is, within (λ (task : Task). is_some task.scope) w.tasks u no_task refl some);
        once = told.once;
      }

  -- the state of a subtask is read off its scope's completions
  state : (kind : Kind) (u : ℕ) → is_in_state w s kind u ≡ (inside u && is_kind kind (completion_of cs u))
  state kind u = by (inside u) refl
    where
      by : (b : Bool) → inside u ≡ b → (b && is_kind kind (sub_state w u)) ≡ (b && is_kind kind (completion_of cs u))
      by true e = let is = some-is_in s (task_at w u).scope e in ap (λ (o : Option ℕ). is_kind kind (completion_of (parent w o).completions u)) is
      by false e = refl

  number-state : (kind : Kind) → number_in w s kind ≡ number (is_kind kind)
  number-state kind = count-same (λ u. inside u && is_kind kind (completion_of cs u)) (is_in_state w s kind) 0 (length w.tasks) (λ u more. state kind u)

  one_of : (a b c d : Bool) → cond {A = ℕ} b 1 0 + cond c 1 0 ≡ cond d 1 0 → cond {A = ℕ} (a && b) 1 0 + cond (a && c) 1 0 ≡ cond (a && d) 1 0
  one_of true b c d e = e
  one_of false b c d e = refl

  completed : number has_succeeded + number has_failed ≡ number is_some
  completed = count-split _ _ _ (births w) (λ u. one_of (inside u) _ _ _ (either (completion_of cs u)))
    where
      either : (o : Option End) → cond {A = ℕ} (has_succeeded o) 1 0 + cond (has_failed o) 1 0 ≡ cond (is_some o) 1 0
      either None = refl
      either (Some (Success v)) = refl
      either (Some (Failed c)) = refl

  all : number is_some + number is_none ≡ subtask_count w s
  all = count-split _ _ inside (births w) (λ u. rest (inside u) (completion_of cs u)) ∙ count-places (is_subtask s) w.tasks no_task
    where
      rest : (b : Bool) (o : Option End) → cond {A = ℕ} (b && is_some o) 1 0 + cond (b && is_none o) 1 0 ≡ cond b 1 0
      rest true None = refl
      rest true (Some e) = refl
      rest false o = refl

  length-completed : number is_some ≡ length cs
  length-completed = count-completed inside (length w.tasks) is_some refl cs counted ∙ count-all cs

  successes : number has_succeeded ≡ tally w s S
  successes = count-completed inside (length w.tasks) has_succeeded refl cs counted ∙ count-ends has_succeeded joining.is_success same_success cs

  failures : number has_failed ≡ tally w s F
  failures = count-completed inside (length w.tasks) has_failed refl cs counted ∙ count-ends has_failed joining.is_failure same_failure cs

  unavailable : number is_none ≡ tally w s U
  unavailable = let a = all in let c = length-completed in omega (arith, a, c)

  each : (kind : Kind) → tally w s kind ≡ number_in w s kind
  each S = sym (number-state S ∙ successes)
  each F = sym (number-state F ∙ failures)
  each U = sym (number-state U ∙ unavailable)

  is_tallied : IsTallied w s
  is_tallied =
      record {
        each = each;
        all = let a = all in let c = completed in let x = successes in let y = failures in let z = unavailable in omega (arith, a, c, x, y, z);
      }

pub tallies_are_counts : TalliesAreCounts
tallies_are_counts = ever _ (λ p w h s. is_tallied w s (h.told s))
