-- The laws of the budgets, from structured code.
use Rattle.std.proofs.Common.{◌≡◌, ℕ, ◌+◌, ◌<◌, List, [], ◌∷◌, length, Some, None, Bool, true}
use Rattle.std.proofs.Common.{false, ◌==◌, cond, ltb, refl, sym, ap, ◌∙◌, subst, arith, inl, inr, ◌≤◌, ◌⊎◌}
use Rattle.std.proofs.lemmas.Bool.{cases_lt, lt-ltb, eqb-false}
use Rattle.sts_code.specs.Program.{Program, routine, instr_at}
use Rattle.sts_code.specs.Checks.{program_fault}
use Rattle.sts_code.specs.declared.instr.Instr.TheVariants.{Times}
use Rattle.sts_rules.specs.Around.{around}
use Rattle.sts_rules.specs.TypeState.{TypeState}
use Rattle.sts_budget.specs.Known.{NamesRight}
use Rattle.sts_budget.specs.TypedNames.{names as typed_names}
use Rattle.sts_rules.specs.Refusal.{IsWellTyped}
use Rattle.sts_rules.specs.declared.budget.Budgets.{Budgets}
use Rattle.sts_rules.specs.ControlPaths.{GoesTo, OpenEntry, step, go}
use Rattle.sts_rules.specs.Budget.{IsBudget, skeleton, shape_of, steps_of, budget_at, Measure, entries_sum, entries_of, forked, tasks_measure, scopes_measure}
use Rattle.sts_rules.specs.Budget.{binds_measure}
use Rattle.sts_budget.specs.Laws.{PointsLieOnPaths, PointsAreWithin, ChildrenArePart}
use Rattle.sts_budget.specs.Layout.{EntryNames, HasScope, FitsNames}
use Rattle.sts_budget.specs.Change.{position_of}
use Rattle.sts_budget.proofs.StructuredLemmas.{at_points, comes_inside}
use Rattle.sts_budget.proofs.EntryLemmas.{names, front, front_all, front_forked, length_forked, long}
use Rattle.sts_budget.proofs.FourKindLemmas.{comes_names}
use Rattle.sts_budget.proofs.TypedLemmas.{structured, fits}
use Rattle.sts_budget.proofs.Named.{knows_names}
use Rattle.sts_budget.proofs.CheckedLemmas.{is_checked}

position_low : (x : ℕ) (ns : EntryNames) → HasScope x ns → position_of x ns < length ns
position_low x [] h = absurd h
position_low x (None ∷ ns) (inl e) = absurd (cc)
position_low x (None ∷ ns) (inr h) = let r = position_low x ns h in omega arith
position_low x (Some s ∷ ns) h = by (s == x) refl (position_low x ns)
  where
    by : (b : Bool) → s == x ≡ b → (HasScope x ns → position_of x ns < length ns) → cond b (length ns) (position_of x ns) < length (Some s ∷ ns)
    by true e ih = omega arith
    by false e ih = elim h [ inl same ↦ (let k : s ≡ x = cc in absurd (eqb-false s x e k)) | inr r ↦ (let q = ih r in omega arith) ]

-- the names in the only typestate of each place
module _ (p : Program) (f : ℕ) (accepted : IsWellTyped p f) (some_code : 0 < length (routine p f).code) (bounds : (pc n : ℕ) → instr_at (routine p f).code pc ≡ Times n → 0 < n) where
  abbrev names_here : ℕ → EntryNames
  names_here pc = elim (cases_lt pc (length (routine p f).code)) [ inl lt ↦ typed_names (accepted pc lt).state.entries | inr ge ↦ [] ]

  names_right : NamesRight p f names_here
  names_right pc s r = by (cases_lt pc (length (routine p f).code))
    where
      within : pc < length (routine p f).code
      within = (fits p f accepted some_code bounds [] pc s r).1

      by : (o : (pc < length (routine p f).code) ⊎ (length (routine p f).code ≤ pc)) → typed_names s.entries ≡ elim o [ inl lt ↦ typed_names (accepted pc lt).state.entries | inr ge ↦ [] ]
      by (inl lt) = ap (λ (x : TypeState). typed_names x.entries) ((accepted pc lt).alone.1 s r)
      by (inr ge) = absurd (omega (arith, within))

pub lie_on_paths : (p : Program) (f : ℕ) (earlier : List Budgets) → program_fault p.routines ≡ None → f < length p.routines → IsWellTyped p f → PointsLieOnPaths earlier (routine p f).code
lie_on_paths p f earlier fine within typed = λ pc loops before es r.
    (let c = is_checked p f fine within in at_points (skeleton earlier (routine p f).code) (around (routine p f).code) (structured p f typed c.some_code c.bounds earlier) pc loops before es r)

pub are_within : (p : Program) (f : ℕ) (earlier : List Budgets) (b : Budgets) → program_fault p.routines ≡ None → f < length p.routines → IsWellTyped p f → IsBudget earlier (routine p f).code b → PointsAreWithin earlier (routine p f).code b
are_within p f earlier b fine within typed is = λ pc loops before es r.
    (let w = lie_on_paths p f earlier fine within typed pc loops before es r in
    let top = is.steps.1 w.0 w.1.0 in (
      omega (arith, w.1.1),
      is.tasks.1 _ (pc, (loops, (before, (es, (r, refl))))),
      is.scopes.1 _ (pc, (loops, (before, (es, (r, refl))))),
      is.binds.1 _ (pc, (loops, (before, (es, (r, refl))))),
    ))

-- a fork adds what the subtask counts
sum_forked : (m : Measure) (x g : ℕ) (es : List OpenEntry) → HasScope x (names es) → entries_sum m (forked x g es) ≡ entries_sum m es + m.subtask g
sum_forked m x g es h =
    let n = length_forked x g es in
    let a = front_all m (forked x g es) (length es) n in
    let b = front_all m es (length es) refl in
    let t : ltb (position_of x (names es)) (length es) ≡ true = lt-ltb (position_of x (names es)) (length es) (let p = position_low x (names es) h in omega (arith, long es)) in
    let fr : front m (forked x g es) (length es) ≡ front m es (length es) + m.subtask g = front_forked m x g es (length es) h ∙ ap (λ v. front m es (length es) + cond v (m.subtask g) 0) t in
    sym a ∙ fr ∙ ap (λ v. v + m.subtask g) b

pub children_part : (p : Program) (f : ℕ) (earlier : List Budgets) (b : Budgets) → program_fault p.routines ≡ None → f < length p.routines → IsWellTyped p f → IsBudget earlier (routine p f).code b → ChildrenArePart earlier (routine p f).code b
children_part p f earlier b fine within typed is = λ pc loops before es r slot child handle e.
    (let c = is_checked p f fine within in
    let code = (routine p f).code in
    let good = structured p f typed c.some_code c.bounds earlier in
    let known = knows_names p f typed c.some_code c.bounds earlier (names_here p f typed c.some_code c.bounds) (names_right p f typed c.some_code c.bounds) in
    let i = comes_inside (skeleton earlier code) (around code) good pc loops before es r in
    let ns = comes_names earlier code (around code) good (names_here p f typed c.some_code c.bounds) known pc loops before es r in
    let fit : HasScope slot (names es) = subst (HasScope slot) (sym ns) (subst (λ j. FitsNames j (names_here p f typed c.some_code c.bounds pc)) e (known.fit pc i.within)) in
    let shape : (skeleton earlier code).shape pc ≡ GoesTo ((pc + 1) ∷ []) = ap (shape_of pc) e in
    let after = step r (go ((pc + 1) ∷ []) shape (inl refl)) in
    let es' : entries_of (instr_at code pc) es ≡ forked slot child es = ap (λ j. entries_of j es) e in
    let w = are_within p f earlier b fine within typed is (pc + 1) loops _ _ after in
    let here = are_within p f earlier b fine within typed is pc loops before es r in
    let weight : steps_of earlier (instr_at code pc) ≡ 1 + (budget_at earlier child).steps = ap (steps_of earlier) e in
    let t = ap (entries_sum (tasks_measure earlier)) es' ∙ sum_forked (tasks_measure earlier) slot child es fit in
    let s = ap (entries_sum (scopes_measure earlier)) es' ∙ sum_forked (scopes_measure earlier) slot child es fit in
    let d = ap (entries_sum (binds_measure earlier)) es' ∙ sum_forked (binds_measure earlier) slot child es fit in
    (omega (arith, here.0, weight), omega (arith, w.1, t), omega (arith, w.2, s), omega (arith, w.3, d)))
