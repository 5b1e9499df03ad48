-- The weights of paths by a trail, in the words of the budget.
use Rattle.std.proofs.Common.{◌≡◌, ℕ, ◌+◌, ◌≤◌, ◌<◌, List, length, true, inl, inr, refl, sym, ap, ◌∙◌, subst, arith}
use Rattle.sts_code.specs.Program.{instr_at}
use Rattle.sts_code.specs.declared.instr.Instr.{Instr}
use Rattle.sts_rules.specs.declared.budget.Budgets.{Budgets}
use Rattle.sts_rules.specs.Budget.{skeleton, Measure, entries_sum, tasks_measure, scopes_measure, binds_measure}
use Rattle.sts_rules.specs.Around.{around}
use Rattle.sts_rules.specs.ControlPaths.{Loops, OpenEntry, Comes}
use Rattle.sts_budget.specs.declared.change.Resource.{Resource}
use Rattle.sts_budget.specs.declared.change.Resource.TheVariants.{Steps, Tasks, Scopes, Binds}
use Rattle.sts_budget.specs.Change.{own_of, depth_of}
use Rattle.sts_budget.specs.Flowing.{flows, flows_by}
use Rattle.sts_budget.specs.Known.{KnowsNames}
use Rattle.sts_budget.specs.Layout.{EntryNames}
use Rattle.sts_budget.specs.Ready.{names_in}
use Rattle.sts_budget.specs.Structured.{IsStructured}
use Rattle.sts_budget.specs.Sums.{Sums, Stands}
use Rattle.look_refusal.specs.declared.search.Search.{Search}
use Rattle.look_refusal.specs.declared.trail.Trail.{Trail}
use Rattle.look_refusal.specs.Heavy.{Weighs, NoneHeavier, IsTooHeavy}
use Rattle.look_refusal.specs.Search.{IsReady, ends_for, may_end, paths, flow}
use Rattle.look_refusal.specs.Top.{IsTop}
use Rattle.look_refusal.specs.Trail.{IsTrail, IsTooWide, sum_in, full_in, greatest_number}
use Rattle.look_refusal.proofs.Fulls.{full_stands}
use Rattle.look_refusal.proofs.Instrs.{ends_paths}
use Rattle.sts_budget.proofs.SumsLemmas.{bounded, point_most}
use Rattle.look_refusal.proofs.Tables.{fits_here, is_table}
use Rattle.sts_budget.specs.Laws.{PointsLieOnPaths}
use Rattle.sts_budget.proofs.EntryLemmas.{front_all, front_le, long}
use Rattle.sts_budget.proofs.FourKindLemmas.{counts_one, comes_names, to_sums, to_steps, from_sums, from_steps, end_counts}

module _ (earlier : List Budgets) (code : List Instr) (round : ℕ → List ℕ) (good : IsStructured (skeleton earlier code) round) (names_at : ℕ → EntryNames) (known : KnowsNames code (skeleton earlier code) round names_at) where
  -- the count at a point is one of the sums
  all_sums : (m : Measure) (pc : ℕ) (loops : Loops) (before : ℕ) (es : List OpenEntry) → Comes (skeleton earlier code) pc loops before es → Sums (skeleton earlier code) (flows_by m code names_at) (length (names_at pc)) pc loops (entries_sum m es)
  all_sums m pc loops before es r =
      let n = comes_names earlier code round good names_at known pc loops before es r in
      let all = front_all m es (length (names_at pc)) (sym (long es) ∙ ap length n) in
      subst (λ x. Sums (skeleton earlier code) (flows_by m code names_at) (length (names_at pc)) pc loops x) all (to_sums earlier code round good names_at known m pc loops before es r (length (names_at pc)) (omega arith))

  pub none_heavier : (k : Resource) (most : ℕ) → ((pc : ℕ) (loops : Loops) (sum : ℕ) → ends_for k (instr_at code pc) ≡ true → Sums (skeleton earlier code) (flows k earlier code names_at) (depth_of k (names_at pc)) pc loops sum → own_of k + sum ≤ most) → (pc m : ℕ) → Weighs k earlier code pc m → m ≤ most
  none_heavier Steps most below pc m (loops, (before, (es, (r, (e, is))))) =
      let one = end_counts earlier pc (instr_at code pc) e in
      let le = below pc loops before (ends_paths pc (instr_at code pc) e) (to_steps earlier code round good names_at known pc loops before es r) in
      omega (arith, is)
  none_heavier Tasks most below pc m (loops, (before, (es, (r, is)))) = let le = below pc loops _ refl (all_sums (tasks_measure earlier) pc loops before es r) in omega (arith, is)
  none_heavier Scopes most below pc m (loops, (before, (es, (r, is)))) = let le = below pc loops _ refl (all_sums (scopes_measure earlier) pc loops before es r) in omega (arith, is)
  none_heavier Binds most below pc m (loops, (before, (es, (r, is)))) = let le = below pc loops _ refl (all_sums (binds_measure earlier) pc loops before es r) in omega (arith, is)

  -- the sum over some of the entries is no more than that over all of them
  entries_weigh : (m : Measure) (v : ℕ) → Stands (skeleton earlier code) (flows_by m code names_at) v → (pc : ℕ) × ((loops : Loops) × ((before : ℕ) × ((es : List OpenEntry) × (Comes (skeleton earlier code) pc loops before es × (v ≤ entries_sum m es)))))
  entries_weigh m v (d, (pc, (loops, (sum, h)))) =
      let w = from_sums earlier code round good names_at known m d pc loops sum h.1 in
      let le = front_le m w.1.0 d in
      (pc, (loops, (w.0, (w.1.0, (w.1.1.0, omega (arith, h.2, w.1.1.1))))))

  pub too_heavy : (k : Resource) → PointsLieOnPaths earlier code → (v : ℕ) → Stands (skeleton earlier code) (flows k earlier code names_at) v → greatest_number < own_of k + v → IsTooHeavy k earlier code
  too_heavy Steps lie v (d, (pc, (loops, (sum, h)))) over =
      let w = from_steps earlier code round good names_at known d pc loops sum h.1 in
      let p = lie pc loops sum w.0 w.1 in
      let path = p.1.0 in
      let last = path.1.1.1.1 in
      let one = counts_one earlier (instr_at code pc) in
      (path.0, (p.0, ((path.1.0, (path.1.1.0, (path.1.1.1.0, (last.0, (last.1, last.2))))), omega (arith, h.2, p.1.1))))
  too_heavy Tasks lie v h over = let e = entries_weigh (tasks_measure earlier) v h in (e.0, (_, ((e.1.0, (e.1.1.0, (e.1.1.1.0, (e.1.1.1.1.0, refl)))), omega (arith, e.1.1.1.1.1))))
  too_heavy Scopes lie v h over = let e = entries_weigh (scopes_measure earlier) v h in (e.0, (_, ((e.1.0, (e.1.1.0, (e.1.1.1.0, (e.1.1.1.1.0, refl)))), omega (arith, e.1.1.1.1.1))))
  too_heavy Binds lie v h over = let e = entries_weigh (binds_measure earlier) v h in (e.0, (_, ((e.1.0, (e.1.1.0, (e.1.1.1.0, (e.1.1.1.1.0, refl)))), omega (arith, e.1.1.1.1.1))))

-- no path weighs more than the greatest sum by the trail
pub top_most : (s : Search) (t : Trail) (place most weight : ℕ) → IsTop s t (length s.code.now) place most → IsTrail s t → IsReady s → own_of s.resource + most ≤ weight → NoneHeavier s.resource s.earlier.now s.code.now weight
top_most s t place most weight top trail ready le = none_heavier s.earlier.now s.code.now (around s.code.now) ready.good (names_in s.layout.now) ready.known s.resource weight below
  where
    below : (pc : ℕ) (loops : Loops) (sum : ℕ) → ends_for s.resource (instr_at s.code.now pc) ≡ true → Sums (skeleton s.earlier.now s.code.now) (flows s.resource s.earlier.now s.code.now (names_in s.layout.now)) (depth_of s.resource (names_in s.layout.now pc)) pc loops sum → own_of s.resource + sum ≤ weight
    below pc loops sum may r =
        let b = bounded (paths s) (around s.code.now) ready.good (flow s) (fits_here s ready) (sum_in t) (is_table s ready t trail) (depth_of s.resource (names_in s.layout.now pc)) pc loops sum r in
        let m = point_most (paths s) (around s.code.now) ready.good (flow s) (fits_here s ready) (sum_in t) (is_table s ready t trail) pc loops sum r in
        let top_le = top.none_more pc b.at.within may in
        omega arith

own_small : (k : Resource) → own_of k ≤ 1
own_small Steps = omega arith
own_small _ = omega arith

-- if the greatest sum isn't 0, some place has it
pub top_there : (s : Search) (t : Trail) (place most : ℕ) → IsTop s t (length s.code.now) place most → 1 < own_of s.resource + most → (place < length s.code.now) × (may_end s place ≡ true) × (full_in s t place ≡ most)
top_there s t place most top some = elim top.there [ inl empty ↦ (let own = own_small s.resource in absurd (omega arith)) | inr there ↦ there ]

-- what is too wide is too heavy
pub wide_heavy : (s : Search) → IsReady s → PointsLieOnPaths s.earlier.now s.code.now → IsTooWide s → IsTooHeavy s.resource s.earlier.now s.code.now
wide_heavy s ready lie (v, (stands, over)) = too_heavy s.earlier.now s.code.now (around s.code.now) ready.good (names_in s.layout.now) ready.known s.resource lie v stands (omega arith)

pub top_heavy : (s : Search) (t : Trail) (place most : ℕ) → IsTop s t (length s.code.now) place most → IsTrail s t → IsReady s → PointsLieOnPaths s.earlier.now s.code.now → greatest_number < own_of s.resource + most → IsTooHeavy s.resource s.earlier.now s.code.now
top_heavy s t place most top trail ready lie over =
    let there = top_there s t place most top (omega arith) in
    let stands = full_stands s ready t trail place there.0 in
    too_heavy s.earlier.now s.code.now (around s.code.now) ready.good (names_in s.layout.now) ready.known s.resource lie (full_in s t place) stands (omega (arith, there.2))
