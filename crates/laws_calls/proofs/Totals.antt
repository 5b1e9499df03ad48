-- What became of the subtasks of a scope, in any order: a count, or a sum.
use Rattle.std.proofs.Common.{◌≡◌, ℕ, zero, suc, ◌+◌, ◌≤◌, inl, inr, List, [], ◌∷◌, Bool, true, false, Option, Some, None}
use Rattle.std.proofs.Common.{refl, sym, ◌∙◌, ap, subst, length, map, arith, cond, fold, rules}
use Rattle.std.specs.Prelude.{ℤ, pos, ◌+ℤ◌, ◌==◌, find, count_by}
use Rattle.std.specs.Int.{int_wrap, w64}
use Rattle.std.specs.List.{filter, range_with_len}
use Rattle.std.proofs.Math.IntN.{+ℤ_assoc, +ℤ_comm, +ℤ_idl, +ℤ_idr}
use Rattle.std.proofs.lemmas.Int.{int_wrap-add_left, int_wrap_fits}
use Rattle.std.proofs.lemmas.Bool.Decides.{nat_tests}
use Rattle.std.proofs.lemmas.List.Sums.{sum_by-cons}
use Rattle.sts_model.specs.declared.event.End.{End}
use Rattle.sts_model.specs.declared.event.End.TheVariants.{Success, Failed}
use Rattle.sts_model.specs.declared.record.Completion.{Completion}
use Rattle.sts_model.specs.World.{World, task_at, scope_at}
use Rattle.sts_model.specs.Living.{is_subtask, completion_of, ends, ends_of}
use Rattle.sts_model.specs.Joining.{plus_value, total_of}
use Rattle.sts_model.specs.Effect.{total}
use Rattle.laws_runs.specs.Tallies.{births}
use Rattle.laws_runs.proofs.EventLemmas.{Right}
use Rattle.laws_calls.specs.Tasks.{Among}
use Rattle.laws_calls.specs.Fitting.{heard_in}
use Rattle.laws_calls.specs.Covers.{subs}
use Rattle.laws_calls.proofs.Lists.{Apart, among_filter}
use Rattle.laws_calls.proofs.Told.{Test, EndOf, counted, rest_once}
use Rattle.laws_calls.proofs.Counts.{states_in}
use Rattle.laws_calls.proofs.Turns.{sub_listed}
use Rattle.laws_runs.proofs.TallyLemmas.{first, others}

-- ---- births

apart_range : (a n : ℕ) → Apart (range_with_len a n)
apart_range a zero = tt
apart_range a (suc n) = (λ at. (let low = above (a + 1) n a at in omega (arith, low)), apart_range (a + 1) n)
  where
    above : (b m u : ℕ) → Among (range_with_len b m) u → b ≤ u
    above b zero u at = absurd at
    above b (suc m) u (inl same) = omega (arith, same)
    above b (suc m) u (inr at) = let r = above (b + 1) m u at in omega (arith, r)

apart_filter : (test : ℕ → Bool) (us : List ℕ) → Apart us → Apart (filter test us)
apart_filter test [] apart = tt
apart_filter test (u ∷ us) apart = by (test u) (apart_filter test us apart.1)
  where
    by : (b : Bool) → Apart (filter test us) → Apart (cond b (u ∷ filter test us) (filter test us))
    by true rest = (λ at. apart.0 (among_filter test us u at).1, rest)
    by false rest = rest

apart_subs : (w : World) (s : ℕ) → Apart (subs w s)
apart_subs w s = apart_filter (λ u. is_subtask s (task_at w u)) (births w) (apart_range 0 (length w.tasks))

-- ---- one completion more

module _ (c : Completion) (cs : List Completion) (once : (u : ℕ) → count_by (Test u) (c ∷ cs) ≤ 1) where
  count_first : (u : ℕ) → count_by (Test u) (c ∷ cs) ≡ cond (c.task == u) 1 0 + count_by (Test u) cs
  count_first u = sum_by-cons (λ (x : Completion). cond (Test u x) 1 0) c cs

  self : (c.task == c.task) ≡ true
  self = grind (arith, nat_tests)

  -- the task has no other
  first_alone : completion_of cs c.task ≡ None
  first_alone = by (completion_of cs c.task) refl
    where
      by : (q : Option End) → completion_of cs c.task ≡ q → q ≡ None
      by None e = refl
      by (Some end) e =
          let more = counted cs c.task end e in
          let n = count_first c.task in
          let one : cond {A = ℕ} (c.task == c.task) 1 0 ≡ 1 = ap (λ b. cond b 1 0) self in
          let o = once c.task in
          absurd (omega (arith, more, n, one, o))

  rest_listed : (us : List ℕ) → ((u : ℕ) (e : End) → completion_of (c ∷ cs) u ≡ Some e → Among us u) → (u : ℕ) (e : End) → completion_of cs u ≡ Some e → Among us u
  rest_listed us listed u e is = by (c.task == u) refl
    where
      by : (b : Bool) → (c.task == u) ≡ b → Among us u
      by true k = listed u c.end (ap (λ b. EndOf (cond b (Some c) (find (Test u) cs))) k)
      by false k = listed u e (ap (λ b. EndOf (cond b (Some c) (find (Test u) cs))) k ∙ is)

-- ---- a sum over ends, in any order

module _ {M : Type 0} (nil : M) (plus : M → M → M) (assoc : (a b c : M) → plus (plus a b) c ≡ plus a (plus b c)) (comm : (a b : M) → plus a b ≡ plus b a) (idl : (a : M) → plus nil a ≡ a) (value : End → M) where
  abbrev worth : Option End → M
  worth None = nil
  worth (Some e) = value e

  abbrev sum_of : List End → M
  sum_of [] = nil
  sum_of (e ∷ es) = plus (value e) (sum_of es)

  abbrev births_sum : (ℕ → M) → List ℕ → M
  births_sum g [] = nil
  births_sum g (u ∷ us) = plus (g u) (births_sum g us)

  births_same : (g k : ℕ → M) (us : List ℕ) → ((u : ℕ) → Among us u → g u ≡ k u) → births_sum g us ≡ births_sum k us
  births_same g k [] same = refl
  births_same g k (u ∷ us) same = ap (λ z. plus z (births_sum g us)) (same u (inl refl)) ∙ ap (λ z. plus (k u) z) (births_same g k us (λ i at. same i (inr at)))

  births_nil : (us : List ℕ) → births_sum (λ u. nil) us ≡ nil
  births_nil [] = refl
  births_nil (u ∷ us) = idl (births_sum (λ i. nil) us) ∙ births_nil us

  swap : (a b c : M) → plus a (plus b c) ≡ plus b (plus a c)
  swap a b c = sym (assoc a b c) ∙ ap (λ z. plus z c) (comm a b) ∙ assoc b a c

  -- one birth of the list is worth more
  births_point : (g k : ℕ → M) (t : ℕ) (us : List ℕ) → Apart us → Among us t → g t ≡ nil → ((u : ℕ) → (u ≡ t → ⊥) → k u ≡ g u) → births_sum k us ≡ plus (k t) (births_sum g us)
  births_point g k t [] apart at none others = absurd at
  births_point g k t (u ∷ us) apart (inl same) none others =
      let rest : births_sum k us ≡ births_sum g us = births_same k g us (λ i at. others i (λ e. apart.0 (subst (λ j. Among us j) (e ∙ sym same) at))) in
      let here : k u ≡ k t = ap k same in
      let nil_u : g u ≡ nil = ap g same ∙ none in
      ap (λ z. plus z (births_sum k us)) here ∙ ap (λ z. plus (k t) z) (rest ∙ sym (ap (λ z. plus z (births_sum g us)) nil_u ∙ idl (births_sum g us)))
  births_point g k t (u ∷ us) apart (inr at) none others =
      let other : u ≡ t → ⊥ = λ e. apart.0 (subst (λ j. Among us j) (sym e) at) in
      ap (λ z. plus z (births_sum k us)) (others u other) ∙ ap (λ z. plus (g u) z) (births_point g k t us apart.1 at none others) ∙ swap (g u) (k t) (births_sum g us)

  -- the ends of the completions are those of the births
  completed : (us : List ℕ) → Apart us → (cs : List Completion) → ((u : ℕ) → count_by (Test u) cs ≤ 1) → ((u : ℕ) (e : End) → completion_of cs u ≡ Some e → Among us u) → sum_of (ends_of cs) ≡ births_sum (λ u. worth (completion_of cs u)) us
  completed us apart [] once listed = sym (births_nil us)
  completed us apart (c ∷ cs) once listed =
      ap (λ z. plus (value c.end) z) (completed us apart cs (rest_once c cs once) (rest_listed c cs once us listed))
      ∙ sym (births_point (λ u. worth (completion_of cs u)) (λ u. worth (completion_of (c ∷ cs) u)) c.task us apart (listed c.task c.end (first c cs)) (ap worth (first_alone c cs once)) (λ u other. ap worth (others c cs u other))
      ∙ ap (λ q. plus (worth q) (births_sum (λ u. worth (completion_of cs u)) us)) (first c cs))

  sum_heard : (f : ℕ → Option End) (us : List ℕ) → sum_of (heard_in (map f us)) ≡ births_sum (λ u. worth (f u)) us
  sum_heard f [] = refl
  sum_heard f (u ∷ us) = by (f u) (sum_heard f us)
    where
      by : (q : Option End) → sum_of (heard_in (map f us)) ≡ births_sum (λ i. worth (f i)) us → sum_of (heard_in (q ∷ map f us)) ≡ plus (worth q) (births_sum (λ i. worth (f i)) us)
      by None e = e ∙ sym (idl (births_sum (λ i. worth (f i)) us))
      by (Some end) e = ap (λ z. plus (value end) z) e

  pub heard_sum : (w : World) → Right w → (s : ℕ) → sum_of (ends (scope_at w s)) ≡ sum_of (heard_in (states_in w s))
  heard_sum w o s =
      completed (subs w s) (apart_subs w s) (scope_at w s).completions (λ u. (o.told s).once u) (λ u e is. sub_listed w s u ((o.told s).subtask u e is))
      ∙ sym (sum_heard (completion_of (scope_at w s).completions) (subs w s))

-- ---- a count

abbrev CountOf : (End → Bool) → List End → ℕ
CountOf test es = sum_of 0 (λ a b. a + b) (λ a b c. omega arith) (λ a b. omega arith) (λ a. omega arith) (λ e. cond (test e) 1 0) es

count_is : (test : End → Bool) (es : List End) → CountOf test es ≡ count_by test es
count_is test [] = refl
count_is test (e ∷ es) = ap (λ n. cond (test e) 1 0 + n) (count_is test es) ∙ sym (sum_by-cons (λ x. cond (test x) 1 0) e es)

-- as many ends pass in what the joiner was told of
pub count_states : (w : World) → Right w → (s : ℕ) (test : End → Bool) → count_by test (ends (scope_at w s)) ≡ count_by test (heard_in (states_in w s))
count_states w o s test =
    sym (count_is test (ends (scope_at w s))) ∙ heard_sum 0 (λ a b. a + b) (λ a b c. omega arith) (λ a b. omega arith) (λ a. omega arith) (λ e. cond (test e) 1 0) w o s ∙ count_is test (heard_in (states_in w s))

-- ---- a sum that wraps

abbrev value_of : End → ℤ
value_of (Success v) = v
value_of (Failed c) = pos 0

abbrev SumOf : List End → ℤ
SumOf es = sum_of (pos 0) (λ a b. a +ℤ b) +ℤ_assoc +ℤ_comm +ℤ_idl value_of es

wraps : (a : ℤ) (es : List End) → fold plus_value (int_wrap w64 a) es ≡ int_wrap w64 (a +ℤ SumOf es)
wraps a [] = ap (int_wrap w64) (sym (+ℤ_idr a))
wraps a (Success v ∷ es) = ap (λ z. fold plus_value z es) (int_wrap-add_left w64 a v) ∙ wraps (a +ℤ v) es ∙ ap (int_wrap w64) (+ℤ_assoc a v (SumOf es))
wraps a (Failed c ∷ es) = wraps a es ∙ ap (λ z. int_wrap w64 (a +ℤ z)) (sym (+ℤ_idl (SumOf es)))

-- a total is the sum, wrapped at the end
total_is : (es : List End) → total_of es ≡ int_wrap w64 (SumOf es)
total_is es =
    let zero_fits : int_wrap w64 (pos 0) ≡ pos 0 = int_wrap_fits w64 (pos 0) (search rules) in
    ap (λ z. fold plus_value z es) (sym zero_fits) ∙ wraps (pos 0) es ∙ ap (int_wrap w64) (+ℤ_idl (SumOf es))

-- `total` sums what became of each subtask
pub total_states : (w : World) → Right w → (s : ℕ) → total w s ≡ total_of (heard_in (states_in w s))
total_states w o s =
    total_is (ends (scope_at w s)) ∙ ap (int_wrap w64) (heard_sum (pos 0) (λ a b. a +ℤ b) +ℤ_assoc +ℤ_comm +ℤ_idl value_of w o s) ∙ sym (total_is (heard_in (states_in w s)))
