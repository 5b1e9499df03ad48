-- The entries of a running frame are those of a point of a control path.
use Rattle.std.proofs.Common.{◌≡◌, ℕ, ◌+◌, ◌≤◌, ◌⊎◌, inl, inr, List, [], ◌∷◌, Bool, true, false, refl, sym, ◌∙◌, ap, arith, cond}
use Rattle.std.specs.Prelude.{sum_by, ◌==◌}
use Rattle.std.specs.List.{list_any}
use Rattle.std.proofs.lemmas.Bool.Decides.{nat_tests}
use Rattle.std.proofs.lemmas.List.Sums.{sum_by-cons}
use Rattle.sts_rules.specs.declared.budget.Budgets.{Budgets}
use Rattle.sts_model.specs.declared.record.Entry.{Entry}
use Rattle.sts_model.specs.declared.record.Entry.TheVariants as entry
use Rattle.sts_model.specs.declared.record.Slot.{Slot}
use Rattle.sts_model.specs.declared.record.Slot.TheVariants.{Own}
use Rattle.sts_model.specs.declared.record.Task.{Task}
use Rattle.sts_model.specs.Misuse.{is_entry_of}
use Rattle.sts_rules.specs.ControlPaths.{OpenEntry, OpenScope, OpenBinding}
use Rattle.sts_rules.specs.Budget.{Measure, budget_at, entry_sum, entries_sum, forked}
use Rattle.laws_runs.proofs.EntryLemmas.{Has, times_in, times-cons}
use Rattle.laws_accepted.specs.Costs.{Peak, subtask_shares, entry_use}
use Rattle.laws_accepted.specs.Points.{Matches, Zips, Opens}
use Rattle.laws_runs.proofs.EnteredLemmas.{some_times}

-- ---- what an entry uses

abbrev pub measure_of : Peak → List Budgets → Measure
measure_of k earlier = record { scope = k.scope; binding = k.binding; subtask = λ f. k.part (budget_at earlier f) }

matches_use : (k : Peak) (budgets earlier : List Budgets) (tasks : List Task) (own : ℕ → Slot) (e : Entry) (o : OpenEntry) → Matches budgets earlier tasks own e o → entry_sum (measure_of k earlier) o ≡ entry_use k budgets tasks e
matches_use k budgets earlier tasks own (entry.Scope s) (OpenScope x fs) m = ap (λ n. k.scope + n) (m.1 k)
matches_use k budgets earlier tasks own (entry.Scope s) OpenBinding m = absurd m
matches_use k budgets earlier tasks own (entry.Binding key value) (OpenScope x fs) m = absurd m
matches_use k budgets earlier tasks own (entry.Binding key value) OpenBinding m = refl

-- the sum at the point is what the structure list uses
pub zips_use : (k : Peak) (budgets earlier : List Budgets) (tasks : List Task) (own : ℕ → Slot) (es : List Entry) (os : List OpenEntry) → Zips budgets earlier tasks own es os → entries_sum (measure_of k earlier) os ≡ sum_by (entry_use k budgets tasks) es
zips_use k budgets earlier tasks own [] [] z = refl
zips_use k budgets earlier tasks own [] (o ∷ os) z = absurd z
zips_use k budgets earlier tasks own (e ∷ es) [] z = absurd z
zips_use k budgets earlier tasks own (e ∷ es) (o ∷ os) z =
    let a = matches_use k budgets earlier tasks own e o z.0 in
    let b = zips_use k budgets earlier tasks own es os z.1 in
    let c = sum_by-cons (entry_sum (measure_of k earlier)) o os in
    let d = sum_by-cons (entry_use k budgets tasks) e es in
    omega (arith, a, b, c, d)

-- ---- other slots and tasks

pub has-first : (s : ℕ) (es : List Entry) → Has s (entry.Scope s ∷ es)
has-first s es = by (s == s) (grind (arith, nat_tests))
  where
    by : (b : Bool) → b ≡ true → list_any (is_entry_of s) (entry.Scope s ∷ es) ≡ true
    by b e = let h : (s == s) ≡ true = grind (arith, nat_tests) in rw h refl

pub has-rest : (s : ℕ) (e : Entry) (es : List Entry) → Has s es → Has s (e ∷ es)
has-rest s (entry.Binding key value) es h = h
has-rest s (entry.Scope r) es h = by (r == s) refl
  where
    by : (b : Bool) → (r == s) ≡ b → Has s (entry.Scope r ∷ es)
    by true e = rw e refl
    by false e = rw e h

-- the slots still own the scopes, and the subtasks of these were given the same
pub zips_map : (budgets earlier : List Budgets) (tasks later : List Task) (own new : ℕ → Slot) (es : List Entry) (os : List OpenEntry)
    → ((x s : ℕ) → Has s es → own x ≡ Own s → new x ≡ Own s)
    → ((k : Peak) (s : ℕ) → Has s es → subtask_shares k budgets later s ≡ subtask_shares k budgets tasks s)
    → Zips budgets earlier tasks own es os
    → Zips budgets earlier later new es os
zips_map budgets earlier tasks later own new [] [] slots sums z = tt
zips_map budgets earlier tasks later own new [] (o ∷ os) slots sums z = absurd z
zips_map budgets earlier tasks later own new (e ∷ es) [] slots sums z = absurd z
zips_map budgets earlier tasks later own new (entry.Scope s ∷ es) (OpenScope x fs ∷ os) slots sums z = (
  (slots x s (has-first s es) z.0.0, λ k. z.0.1 k ∙ sym (sums k s (has-first s es))),
  zips_map budgets earlier tasks later own new es os (λ y r h. slots y r (has-rest r (entry.Scope s) es h)) (λ k r h. sums k r (has-rest r (entry.Scope s) es h)) z.1,
)
zips_map budgets earlier tasks later own new (entry.Scope s ∷ es) (OpenBinding ∷ os) slots sums z = absurd z.0
zips_map budgets earlier tasks later own new (entry.Binding key value ∷ es) (OpenScope x fs ∷ os) slots sums z = absurd z.0
zips_map budgets earlier tasks later own new (entry.Binding key value ∷ es) (OpenBinding ∷ os) slots sums z =
    (tt, zips_map budgets earlier tasks later own new es os (λ y r h. slots y r (has-rest r (entry.Binding key value) es h)) (λ k r h. sums k r (has-rest r (entry.Binding key value) es h)) z.1)

-- a slot that is open has its scope in the structure list
pub zips_has : (budgets earlier : List Budgets) (tasks : List Task) (own : ℕ → Slot) (x s : ℕ) → own x ≡ Own s → (es : List Entry) (os : List OpenEntry) → Zips budgets earlier tasks own es os → Opens x os → Has s es
zips_has budgets earlier tasks own x s mine [] [] z h = absurd h
zips_has budgets earlier tasks own x s mine [] (o ∷ os) z h = absurd z
zips_has budgets earlier tasks own x s mine (e ∷ es) [] z h = absurd z
zips_has budgets earlier tasks own x s mine (entry.Scope r ∷ es) (OpenBinding ∷ os) z h = absurd z.0
zips_has budgets earlier tasks own x s mine (entry.Binding key value ∷ es) (OpenScope y fs ∷ os) z h = absurd z.0
zips_has budgets earlier tasks own x s mine (entry.Binding key value ∷ es) (OpenBinding ∷ os) z h = zips_has budgets earlier tasks own x s mine es os z.1 h
zips_has budgets earlier tasks own x s mine (entry.Scope r ∷ es) (OpenScope y fs ∷ os) z (inl same) =
    let there : own x ≡ Own r = rw same at z.0.0 in
    let q : r ≡ s = cc in
    rw q (has-first s es)
zips_has budgets earlier tasks own x s mine (entry.Scope r ∷ es) (OpenScope y fs ∷ os) z (inr rest) = has-rest s (entry.Scope r) es (zips_has budgets earlier tasks own x s mine es os z.1 rest)

-- ---- a fork

-- the first entry is that of s, so the rest has none
pub not_in_rest : (s : ℕ) (es : List Entry) → times_in s (entry.Scope s ∷ es) ≤ 1 → Has s es → ⊥
not_in_rest s es once has =
    let a = times-cons (entry.Scope s) es s in
    let b = some_times es s has in
    let here : (s == s) ≡ true = grind (arith, nat_tests) in
    let one : cond {A = ℕ} (s == s) 1 0 ≡ 1 = rw here refl in
    omega (arith, a, b, one, once)

fewer_times : (s : ℕ) (e : Entry) (es : List Entry) → times_in s (e ∷ es) ≤ 1 → times_in s es ≤ 1
fewer_times s e es once = let a = times-cons e es s in omega (arith, a, once)

-- a subtask more, of the function g in the scope s
pub zips_forked : (budgets earlier : List Budgets) (tasks later : List Task) (own : ℕ → Slot) (x s g : ℕ) → own x ≡ Own s
    → ((k : Peak) → subtask_shares k budgets later s ≡ subtask_shares k budgets tasks s + k.part (budget_at earlier g))
    → ((k : Peak) (r : ℕ) → (r ≡ s → ⊥) → subtask_shares k budgets later r ≡ subtask_shares k budgets tasks r)
    → (es : List Entry) (os : List OpenEntry) → times_in s es ≤ 1 → Opens x os
    → Zips budgets earlier tasks own es os
    → Zips budgets earlier later own es (forked x g os)
zips_forked budgets earlier tasks later own x s g mine more others [] [] once o_x z = absurd o_x
zips_forked budgets earlier tasks later own x s g mine more others [] (o ∷ os) once o_x z = absurd z
zips_forked budgets earlier tasks later own x s g mine more others (e ∷ es) [] once o_x z = absurd z
zips_forked budgets earlier tasks later own x s g mine more others (entry.Scope r ∷ es) (OpenBinding ∷ os) once o_x z = absurd z.0
zips_forked budgets earlier tasks later own x s g mine more others (entry.Binding key value ∷ es) (OpenScope y fs ∷ os) once o_x z = absurd z.0
zips_forked budgets earlier tasks later own x s g mine more others (entry.Binding key value ∷ es) (OpenBinding ∷ os) once o_x z =
    (tt, zips_forked budgets earlier tasks later own x s g mine more others es os (fewer_times s (entry.Binding key value) es once) o_x z.1)
zips_forked budgets earlier tasks later own x s g mine more others (entry.Scope r ∷ es) (OpenScope y fs ∷ os) once o_x z =
    by (y == x) refl (zips_forked budgets earlier tasks later own x s g mine more others es os (fewer_times s (entry.Scope r) es once))
  where
    by : (b : Bool) → (y == x) ≡ b → (Opens x os → Zips budgets earlier tasks own es os → Zips budgets earlier later own es (forked x g os)) → Zips budgets earlier later own (entry.Scope r ∷ es) (cond b (OpenScope y (g ∷ fs) ∷ os) (OpenScope y fs ∷ forked x g os))
    by true e next =
        let same : y ≡ x = grind (arith, nat_tests) in
        let there : own x ≡ Own r = rw same at z.0.0 in
        let q : r ≡ s = cc in
        let only : times_in s (entry.Scope s ∷ es) ≤ 1 = rw q at once in (
          (z.0.0, λ k. let a = sum_by-cons (λ h. k.part (budget_at earlier h)) g fs in let b = z.0.1 k in let c = more k in let d : subtask_shares k budgets later r ≡ subtask_shares k budgets later s = ap (subtask_shares k budgets later) q in let d2 : subtask_shares k budgets tasks r ≡ subtask_shares k budgets tasks s = ap (subtask_shares k budgets tasks) q in omega (arith, a, b, c, d, d2)),
          zips_map budgets earlier tasks later own own es os (λ v t h own_t. own_t) (λ k t h. others k t (λ d. not_in_rest s es only (rw d at h))) z.1,
        )
    by false e next =
        let rest : Opens x os = later_open o_x in
        let other : r ≡ s → ⊥ = λ q. not_in_rest s es (rw q at once) (zips_has budgets earlier tasks own x s mine es os z.1 rest) in
        ((z.0.0, λ k. z.0.1 k ∙ sym (others k r other)), next rest z.1)
      where
        later_open : (y ≡ x) ⊎ Opens x os → Opens x os
        later_open (inl same) = let h : (y == x) ≡ true = grind (arith, nat_tests) in cc
        later_open (inr h) = h

pub opens_forked : (x y g : ℕ) (os : List OpenEntry) → Opens y os → Opens y (forked x g os)
opens_forked x y g [] h = h
opens_forked x y g (OpenBinding ∷ os) h = opens_forked x y g os h
opens_forked x y g (OpenScope z fs ∷ os) h = by (z == x) (opens_forked x y g os) h
  where
    by : (b : Bool) → (Opens y os → Opens y (forked x g os)) → (z ≡ y) ⊎ Opens y os → Opens y (cond b (OpenScope z (g ∷ fs) ∷ os) (OpenScope z fs ∷ forked x g os))
    by true next h = h
    by false next (inl same) = inl same
    by false next (inr rest) = inr (next rest)

-- a fork adds what the subtask counts
pub sum_forked : (m : Measure) (x g : ℕ) (os : List OpenEntry) → Opens x os → entries_sum m (forked x g os) ≡ entries_sum m os + m.subtask g
sum_forked m x g [] h = absurd h
sum_forked m x g (OpenBinding ∷ os) h =
    let a = sum_by-cons (entry_sum m) OpenBinding os in
    let b = sum_by-cons (entry_sum m) OpenBinding (forked x g os) in
    let c = sum_forked m x g os h in
    omega (arith, a, b, c)
sum_forked m x g (OpenScope z fs ∷ os) h = by (z == x) refl (sum_forked m x g os) h
  where
    by : (b : Bool) → (z == x) ≡ b → (Opens x os → entries_sum m (forked x g os) ≡ entries_sum m os + m.subtask g) → (z ≡ x) ⊎ Opens x os → entries_sum m (cond b (OpenScope z (g ∷ fs) ∷ os) (OpenScope z fs ∷ forked x g os)) ≡ entries_sum m (OpenScope z fs ∷ os) + m.subtask g
    by true e next k =
        let a = sum_by-cons (entry_sum m) (OpenScope z fs) os in
        let b = sum_by-cons (entry_sum m) (OpenScope z (g ∷ fs)) os in
        let c = sum_by-cons m.subtask g fs in
        omega (arith, a, b, c)
    by false e next (inl same) = let q : (z == x) ≡ true = grind (arith, nat_tests) in cc
    by false e next (inr k) =
        let a = sum_by-cons (entry_sum m) (OpenScope z fs) os in
        let b = sum_by-cons (entry_sum m) (OpenScope z fs) (forked x g os) in
        let c = next k in
        omega (arith, a, b, c)
