-- The four budgets: the sums of the pass are the counts of control paths.
use Rattle.std.proofs.Common.{◌≡◌, ℕ, suc, ◌+◌, ◌<◌, ◌≤◌, List, [], ◌∷◌, length, refl, sym, ap, ◌∙◌, subst, arith}
use Rattle.sts_code.specs.declared.instr.Instr.{Instr}
use Rattle.sts_code.specs.declared.instr.Instr.TheVariants.{Push, Times, Next, Ret, Fail}
use Rattle.sts_code.specs.Program.{instr_at}
use Rattle.sts_rules.specs.ControlPaths.{EndsPath, OpenEntry, Skeleton, Loops, Follows, go, skip, enter, again, leave, Comes, start, step, PathCounts}
use Rattle.sts_rules.specs.ControlPaths.{IsGreatest, PointHolds, IsPeak}
use Rattle.sts_rules.specs.declared.budget.Budgets.{Budgets}
use Rattle.sts_rules.specs.Budget.{Measure, entries_sum, entries_of, skeleton, shape_of, steps_of, tasks_measure, scopes_measure, binds_measure, scopes_sum}
use Rattle.sts_rules.specs.Budget.{binds_sum, Exceeds, PathExceeds}
use Rattle.sts_budget.specs.Layout.{EntryNames, names_after, FitsNames}
use Rattle.sts_budget.specs.declared.change.Resource.{Resource}
use Rattle.sts_budget.specs.declared.change.Resource.TheVariants.{Steps, Tasks, Scopes, Binds}
use Rattle.sts_budget.specs.Change.{source_of, added_of, measured, own_of, limit_of, cause_of, IsMost}
use Rattle.sts_budget.proofs.StructuredLemmas.{own_loop, IsInside, comes_inside, at_points}
use Rattle.sts_budget.proofs.SumsLemmas.{IsTable, point_most, point_attained}
use Rattle.sts_budget.proofs.EntryLemmas.{names, front, front_all, front_le, names_of, front_of, source_low, source_kept, long}
use Rattle.sts_budget.specs.Flowing.{flows, flows_by}
use Rattle.sts_budget.specs.Known.{KnowsNames}
use Rattle.sts_budget.specs.Structured.{IsStructured}
use Rattle.sts_budget.specs.Sums.{Sums, none, more, FitsEntries, Stands, full}

-- each instruction counts a step
pub counts_one : (earlier : List Budgets) (i : Instr) → 1 ≤ steps_of earlier i
counts_one earlier (Push k) = omega arith
counts_one earlier _ = omega arith

-- the last of a path counts no more
pub end_counts : (earlier : List Budgets) (pc : ℕ) (i : Instr) → shape_of pc i ≡ EndsPath → steps_of earlier i ≡ 1
end_counts earlier pc Ret e = refl
end_counts earlier pc Fail e = refl
end_counts earlier pc _ e = absurd (cc)

module _ (earlier : List Budgets) (code : List Instr) (round : ℕ → List ℕ) (good : IsStructured (skeleton earlier code) round) (names_at : ℕ → EntryNames) (known : KnowsNames code (skeleton earlier code) round names_at) where
  abbrev c : Skeleton
  c = skeleton earlier code

  -- ---- the sums fit the entries

  fits_by : (m : Measure) → FitsEntries c round (flows_by m code names_at)
  fits_by m = record {
    empty = ap length known.empty;
    from = λ pc to d places e among low. source_low m (instr_at code pc) (names_at pc) d (subst (λ ns. d ≤ length ns) (known.over_go pc to places e among) low);
    kept = λ pc to d places h hs e among low is. source_kept m (instr_at code pc) (names_at pc) d (length (names_at h)) (known.deeper pc h hs is);
    times = λ pc n d e. ap (λ i. source_of (measured m i (names_at pc)) (length (names_at pc)) d) (known.times pc n e);
    next = λ pc d e. ap (λ i. source_of (measured m i (names_at pc)) (length (names_at pc)) d) (known.next pc e);
    same = λ pc n e. (let s = known.same pc n e in (ap length s.0, ap length s.1, ap length s.2));
    deeper = known.deeper;
  }

  fits_steps : FitsEntries c round (flows Steps earlier code names_at)
  fits_steps = record {
    empty = refl;
    from = λ pc to d places e among low. low;
    kept = λ pc to d places h hs e among low is. refl;
    times = λ pc n d e. refl;
    next = λ pc d e. refl;
    same = λ pc n e. (refl, refl, refl);
    deeper = λ pc h hs e. omega arith;
  }

  pub fits : (k : Resource) → FitsEntries c round (flows k earlier code names_at)
  fits Steps = fits_steps
  fits Tasks = fits_by (tasks_measure earlier)
  fits Scopes = fits_by (scopes_measure earlier)
  fits Binds = fits_by (binds_measure earlier)

  -- ---- the names along a path

  same_after : (pc : ℕ) (i : Instr) → instr_at code pc ≡ i → (ns : EntryNames) → names_after i ns ≡ ns → names_after (instr_at code pc) ns ≡ ns
  same_after pc i e ns same = ap (λ j. names_after j ns) e ∙ same

  follow_names : (pc : ℕ) (loops : Loops) (to : ℕ) (after : Loops) → IsInside c round good pc loops → Follows c pc loops to after → names_at to ≡ names_after (instr_at code pc) (names_at pc)
  follow_names pc loops to after i (go places e among) = known.over_go pc to places e among
  follow_names pc loops to after i (skip n e) = (known.same pc n e).2 ∙ sym (same_after pc (Times n) (known.times pc n e) (names_at pc) refl)
  follow_names pc loops to after i (enter n turns e pos le) = (known.same pc n e).0 ∙ sym (same_after pc (Times n) (known.times pc n e) (names_at pc) refl)
  follow_names pc loops to after i (again h left {loops = ls} e pos) =
      let o = own_loop c round good pc h (suc left) ls i.inside e in
      let s = known.same h o.0 o.1.0 in
      s.0 ∙ sym s.1 ∙ ap names_at o.1.1 ∙ sym (same_after pc Next (known.next pc e) (names_at pc) refl)
  follow_names pc loops to after i (leave h {loops = ls} e) =
      let o = own_loop c round good pc h 1 ls i.inside e in
      let s = known.same h o.0 o.1.0 in
      ap (λ q. names_at (q + 1)) (sym o.1.1) ∙ s.2 ∙ sym s.1 ∙ ap names_at o.1.1 ∙ sym (same_after pc Next (known.next pc e) (names_at pc) refl)

  pub comes_names : (pc : ℕ) (loops : Loops) (before : ℕ) (es : List OpenEntry) → Comes c pc loops before es → names es ≡ names_at pc
  comes_names pc loops before es start = sym known.empty
  comes_names pc loops before es (step {pc = from} {loops = ls} {before = m} {entries = entries} r s) =
      names_of (instr_at code from) entries ∙ ap (names_after (instr_at code from)) (comes_names from ls m entries r) ∙ sym (follow_names from ls pc loops (comes_inside c round good from ls m entries r) s)

  -- ---- paths and sums

  -- what a step makes of the sum over the first entries
  step_front : (m : Measure) (from pc : ℕ) (ls loops : Loops) (entries : List OpenEntry) → IsInside c round good from ls → names entries ≡ names_at from → Follows c from ls pc loops → (d : ℕ) → d ≤ length (names_at pc) → (d ≤ length (names_after (instr_at code from) (names_at from))) × (front m (entries_of (instr_at code from) entries) d ≡ front m entries (source_of (measured m (instr_at code from) (names_at from)) (length (names_at from)) d) + added_of (measured m (instr_at code from) (names_at from)) (length (names_at from)) d)
  step_front m from pc ls loops entries i n s d le =
      let after_is = follow_names from ls pc loops i s in
      let fit = subst (FitsNames (instr_at code from)) (sym n) (known.fit from i.within) in
      let low : d ≤ length (names_after (instr_at code from) (names_at from)) = subst (λ ns. d ≤ length ns) after_is le in
      let low' : d ≤ length (names_after (instr_at code from) (names entries)) = subst (λ ns. d ≤ length (names_after (instr_at code from) ns)) (sym n) low in
      let f = front_of m (instr_at code from) entries d fit low' in
      (low, subst (λ ns. front m (entries_of (instr_at code from) entries) d ≡ front m entries (source_of (measured m (instr_at code from) ns) (length ns) d) + added_of (measured m (instr_at code from) ns) (length ns) d) n f)

  -- each sum over the first entries at a point is one of the sums
  pub to_sums : (m : Measure) (pc : ℕ) (loops : Loops) (before : ℕ) (es : List OpenEntry) → Comes c pc loops before es → (d : ℕ) → d ≤ length (names_at pc) → Sums c (flows_by m code names_at) d pc loops (front m es d)
  to_sums m pc loops before es start d le = let z : 0 ≡ d = omega (arith, ap length known.empty) in subst (λ x. Sums c (flows_by m code names_at) x 0 [] 0) z none
  to_sums m pc loops before es (step {pc = from} {loops = ls} {before = b} {entries = entries} r s) d le =
      let i = comes_inside c round good from ls b entries r in
      let n = comes_names from ls b entries r in
      let f = step_front m from pc ls loops entries i n s d le in
      let back = source_low m (instr_at code from) (names_at from) d f.0 in
      subst (λ x. Sums c (flows_by m code names_at) d pc loops x) (sym f.1) (more le (to_sums m from ls b entries r (source_of (measured m (instr_at code from) (names_at from)) (length (names_at from)) d) back) s)

  -- each of the sums is one at a point
  pub from_sums : (m : Measure) (d pc : ℕ) (loops : Loops) (sum : ℕ) → Sums c (flows_by m code names_at) d pc loops sum → (before : ℕ) × ((es : List OpenEntry) × (Comes c pc loops before es × (front m es d ≡ sum)))
  from_sums m d pc loops sum none = (0, ([], (start, refl)))
  from_sums m d pc loops sum (more {pc = from} {loops = ls} {m = part} le r s) =
      let w = from_sums m (source_of (measured m (instr_at code from) (names_at from)) (length (names_at from)) d) from ls part r in
      let entries = w.1.0 in
      let i = comes_inside c round good from ls w.0 entries w.1.1.0 in
      let n = comes_names from ls w.0 entries w.1.1.0 in
      let f = step_front m from pc ls loops entries i n s d le in
      (w.0 + c.weight from, (entries_of (instr_at code from) entries, (step w.1.1.0 s, f.1 ∙ ap (λ x. x + added_of (measured m (instr_at code from) (names_at from)) (length (names_at from)) d) w.1.1.1)))

  pub to_steps : (pc : ℕ) (loops : Loops) (before : ℕ) (es : List OpenEntry) → Comes c pc loops before es → Sums c (flows Steps earlier code names_at) 0 pc loops before
  to_steps pc loops before es start = none
  to_steps pc loops before es (step {pc = from} {loops = ls} {before = b} {entries = entries} r s) = more (omega arith) (to_steps from ls b entries r) s

  pub from_steps : (d pc : ℕ) (loops : Loops) (sum : ℕ) → Sums c (flows Steps earlier code names_at) d pc loops sum → (es : List OpenEntry) × Comes c pc loops sum es
  from_steps d pc loops sum none = ([], start)
  from_steps d pc loops sum (more {pc = from} {loops = ls} {m = part} le r s) = let w = from_steps d from ls part r in (entries_of (instr_at code from) w.0, step w.1 s)

  -- ---- what stands passes the limit

  steps_exceed : (v limit : ℕ) → Stands c (flows Steps earlier code names_at) v → limit < 1 + v → PathExceeds c limit
  steps_exceed v limit (d, (pc, (loops, (m, h)))) over =
      let w = from_steps d pc loops m h.1 in
      let p = at_points c round good pc loops m w.0 w.1 in
      let one = counts_one earlier (instr_at code pc) in
      (p.0, (p.1.0, omega (arith, h.2, p.1.1)))

  point_exceeds : (k : Measure) (v : ℕ) → Stands c (flows_by k code names_at) v → (m : ℕ) × (PointHolds c (entries_sum k) m × (v ≤ m))
  point_exceeds k v (d, (pc, (loops, (m, h)))) =
      let w = from_sums k d pc loops m h.1 in
      let le = front_le k w.1.0 d in
      (entries_sum k w.1.0, ((pc, (loops, (w.0, (w.1.0, (w.1.1.0, refl))))), omega (arith, h.2, w.1.1.1)))

  pub stands_exceeds : (k : Resource) (v : ℕ) → Stands c (flows k earlier code names_at) v → limit_of k < own_of k + v → Exceeds earlier code (cause_of k)
  stands_exceeds Steps v h over = steps_exceed v 1000000 h over
  stands_exceeds Tasks v h over = let p = point_exceeds (tasks_measure earlier) v h in (1 + p.0, ((p.1.0.0, (p.1.0.1.0, (p.1.0.1.1.0, (p.1.0.1.1.1.0, (p.1.0.1.1.1.1.0, ap (λ n. 1 + n) p.1.0.1.1.1.1.1))))), omega (arith, p.1.1)))
  stands_exceeds Scopes v h over = let p = point_exceeds (scopes_measure earlier) v h in (p.0, (p.1.0, omega (arith, p.1.1)))
  stands_exceeds Binds v h over = let p = point_exceeds (binds_measure earlier) v h in (p.0, (p.1.0, omega (arith, p.1.1)))

  -- ---- the greatest of all places

  steps_most : (best : ℕ → ℕ → ℕ) (table : IsTable c (flows Steps earlier code names_at) best) (r : ℕ) → ((pc : ℕ) → pc < c.size → full c (flows Steps earlier code names_at) round best pc ≤ r) → (pc : ℕ) → pc < c.size → full c (flows Steps earlier code names_at) round best pc ≡ r → IsGreatest c (1 + r)
  steps_most best table r most pc within is =
      let w = from_steps 0 pc _ _ (point_attained c round good (flows Steps earlier code names_at) fits_steps best table pc within) in
      let p = at_points c round good pc _ _ w.0 w.1 in
      let one = counts_one earlier (instr_at code pc) in
      let least : 1 + r ≤ p.0 = omega (arith, p.1.1) in
      let top = no_more p.0 p.1.0 in
      let same : p.0 ≡ 1 + r = omega arith in
      (subst (PathCounts c) same p.1.0, no_more)
    where
      no_more : (other : ℕ) → PathCounts c other → other ≤ 1 + r
      no_more other (at, (loops, (before, (es, h)))) =
          let m = point_most c round good (flows Steps earlier code names_at) fits_steps best table at loops before (to_steps at loops before es h.0) in
          let i = comes_inside c round good at loops before es h.0 in
          let top = most at i.within in
          let one = end_counts earlier at (instr_at code at) h.1 in
          omega (arith, h.2)

  points_most : (k : Measure) (best : ℕ → ℕ → ℕ) (table : IsTable c (flows_by k code names_at) best) (r : ℕ) → ((pc : ℕ) → pc < c.size → full c (flows_by k code names_at) round best pc ≤ r) → (pc : ℕ) → pc < c.size → full c (flows_by k code names_at) round best pc ≡ r → IsPeak c (entries_sum k) r
  points_most k best table r most pc within is =
      let w = from_sums k (length (names_at pc)) pc _ _ (point_attained c round good (flows_by k code names_at) (fits_by k) best table pc within) in
      let n = comes_names pc _ w.0 w.1.0 w.1.1.0 in
      let all = front_all k w.1.0 (length (names_at pc)) (sym (long w.1.0) ∙ ap length n) in
      ((pc, (_, (w.0, (w.1.0, (w.1.1.0, sym all ∙ w.1.1.1 ∙ is))))), no_more)
    where
      no_more : (other : ℕ) → PointHolds c (entries_sum k) other → other ≤ r
      no_more other (at, (loops, (before, (es, h)))) =
          let n = comes_names at loops before es h.0 in
          let all = front_all k es (length (names_at at)) (sym (long es) ∙ ap length n) in
          let m = point_most c round good (flows_by k code names_at) (fits_by k) best table at loops _ (to_sums k at loops before es h.0 (length (names_at at)) (omega arith)) in
          let i = comes_inside c round good at loops before es h.0 in
          let top = most at i.within in
          omega (arith, h.1)

  one_more : (k : Measure) (r : ℕ) → IsPeak c (entries_sum k) r → IsPeak c (λ es. 1 + entries_sum k es) (1 + r)
  one_more k r h = (
    (h.0.0, (h.0.1.0, (h.0.1.1.0, (h.0.1.1.1.0, (h.0.1.1.1.1.0, ap (λ n. 1 + n) h.0.1.1.1.1.1))))),
    λ other p. (let le = h.1 (entries_sum k p.1.1.1.0) (p.0, (p.1.0, (p.1.1.0, (p.1.1.1.0, (p.1.1.1.1.0, refl))))) in omega (arith, p.1.1.1.1.1)),
  )

  pub top_is_most : (k : Resource) (best : ℕ → ℕ → ℕ) (table : IsTable c (flows k earlier code names_at) best) (r : ℕ) → ((pc : ℕ) → pc < c.size → full c (flows k earlier code names_at) round best pc ≤ r) → (pc : ℕ) → pc < c.size → full c (flows k earlier code names_at) round best pc ≡ r → IsMost k earlier code (own_of k + r)
  top_is_most Steps best table r most pc within is = steps_most best table r most pc within is
  top_is_most Tasks best table r most pc within is = one_more (tasks_measure earlier) r (points_most (tasks_measure earlier) best table r most pc within is)
  top_is_most Scopes best table r most pc within is = let z : r ≡ 0 + r = omega arith in subst (IsPeak c (scopes_sum earlier)) z (points_most (scopes_measure earlier) best table r most pc within is)
  top_is_most Binds best table r most pc within is = let z : r ≡ 0 + r = omega arith in subst (IsPeak c (binds_sum earlier)) z (points_most (binds_measure earlier) best table r most pc within is)

  -- ---- where nothing ever opens

  nothing_open : (k : Measure) → ((pc : ℕ) → length (names_at pc) ≤ 0) → IsPeak c (entries_sum k) 0
  nothing_open k none_open = ((0, ([], (0, ([], (start, refl))))), no_more)
    where
      nothing : (es : List OpenEntry) → length es ≤ 0 → entries_sum k es ≡ 0
      nothing [] le = refl
      nothing (e ∷ es) le = absurd (omega arith)

      no_more : (other : ℕ) → PointHolds c (entries_sum k) other → other ≤ 0
      no_more other (at, (loops, (before, (es, h)))) =
          let n = comes_names at loops before es h.0 in
          let short = none_open at in
          let z = nothing es (omega (arith, long es, ap length n)) in
          omega (arith, h.1)

  -- only the task itself counts
  pub own_is_most : (k : Resource) → (k ≡ Steps → ⊥) → ((pc : ℕ) → length (names_at pc) ≤ 0) → IsMost k earlier code (own_of k)
  own_is_most Steps no_steps none_open = absurd (no_steps refl)
  own_is_most Tasks no_steps none_open = one_more (tasks_measure earlier) 0 (nothing_open (tasks_measure earlier) none_open)
  own_is_most Scopes no_steps none_open = nothing_open (scopes_measure earlier) none_open
  own_is_most Binds no_steps none_open = nothing_open (binds_measure earlier) none_open
