-- Accepted programs: their budgets are within the limits, and so is every state of every run.
use Rattle.std.proofs.Common.{Some, ◌≡◌, ℕ, ◌+◌, ◌-◌, ◌<◌, ◌≤◌, ◌⊎◌, inl, inr, List, [], ◌∷◌, ◌++◌, true, false, None, refl, sym, ◌∙◌, ap, subst, length, arith}
use Rattle.std.proofs.Common.{take, get_or}
use Rattle.std.specs.Prelude.{nat_le}
use Rattle.std.proofs.lemmas.Bool.{cases_lt}
use Rattle.std.proofs.lemmas.Bool.Decides.{nat_tests}
use Rattle.std.proofs.lemmas.List.{get_or_append_left, get_or-take, take-append-le}
use Rattle.std.proofs.Math.Seq.{get_or-append_seam, take-append_seam}
use Rattle.sts_code.specs.Checks.{program_fault}
use Rattle.sts_code.specs.Program.{Program, routine}
use Rattle.sts_code.specs.declared.instr.Instr.{Instr}
use Rattle.sts_code.specs.declared.instr.Instr.TheVariants.{Open, Fork, Close}
use Rattle.sts_rules.specs.declared.budget.Budgets.{Budgets}
use Rattle.sts_model.specs.declared.event.Event.{Event}
use Rattle.sts_rules.specs.declared.typing.Cause.TheVariants.{TooManySteps, TooManyTasks, TooManyScopes, TooManyBinds}
use Rattle.sts_model.specs.World.{World, State, Running, Faulted, task_at, instr_at}
use Rattle.sts_code.specs.Program as program
use Rattle.sts_model.specs.Living.{lives}
use Rattle.sts_model.specs.Misuse.{is_crowded}
use Rattle.sts_model.specs.Standing.{standing_tasks, standing_scopes}
use Rattle.sts_rules.specs.ControlPaths.{start}
use Rattle.sts_rules.specs.Budget.{budget_at, no_budget, steps_of}
use Rattle.sts_rules.specs.Refusal.{IsAccepted}
use Rattle.sts_model.specs.Run.{after, taken}
use Rattle.laws_runs.specs.Runs.{In}
use Rattle.laws_runs.proofs.BirthLemmas.{born_alive}
use Rattle.laws_runs.proofs.EventLemmas.{Also}
use Rattle.laws_accepted.proofs.TimelyLemmas.{Timely, timely-after}
use Rattle.sts_budget.specs.Laws.{PointsAreWithin}
use Rattle.sts_budget.proofs.PathLemmas.{are_within, lie_on_paths}
use Rattle.sts_budget.proofs.CheckedLemmas.{is_checked}
use Rattle.laws_accepted.specs.Costs.{AreTyped, main_budget, Accepted, IsModest, AcceptedIsModest, HasPlaceFor, AcceptedHasPlace}
use Rattle.laws_accepted.proofs.RangeLemmas.{some_function, not_more}
use Rattle.laws_accepted.proofs.Printed.{all_typed}
use Rattle.laws_accepted.proofs.Turns.{waits-few, waits-fork}
use Rattle.laws_accepted.proofs.Good.{IsCosted, Good}
use Rattle.laws_accepted.proofs.Effects.{same_instr}
use Rattle.laws_accepted.proofs.CostRuns.{good-after}
use Rattle.laws_accepted.proofs.CostLaws.{IsPeaked, adds_up, has_room, left_for}
use Rattle.laws_accepted.proofs.Born.{births_are_steps}

-- the limits of a function
abbrev pub limits : Budgets
limits = record { steps = 1000000; tasks = 65536; scopes = 65536; binds = 65536 }

module _ (p : Program) (checked : program_fault p.routines ≡ None) (accepted : IsAccepted p) where
  pub low : length p.routines - 1 < length p.routines
  low = let some = some_function p checked in omega (arith, some)

  -- the budgets of the functions before `main`, and the limits for `main`
  abbrev pub budgets_of : List Budgets
  budgets_of = (accepted.sound (length p.routines - 1) low).earlier ++ limits ∷ []

  long : length (accepted.sound (length p.routines - 1) low).earlier ≡ length p.routines - 1
  long = (accepted.sound (length p.routines - 1) low).long

  limits_main : budget_at budgets_of (length p.routines - 1) ≡ limits
  limits_main = ap (λ k. get_or budgets_of k no_budget) (sym long) ∙ get_or-append_seam (accepted.sound (length p.routines - 1) low).earlier limits [] no_budget

  within_main : PointsAreWithin (accepted.sound (length p.routines - 1) low).earlier (routine p (length p.routines - 1)).code limits
  within_main pc loops before es r =
      let s = accepted.sound (length p.routines - 1) low in
      let path = lie_on_paths p (length p.routines - 1) s.earlier checked low s.typed pc loops before es r in
      let steps = not_more 1000000 path.0 (λ more. s.within TooManySteps (path.0, (path.1.0, more))) in (
        omega (arith, steps, path.1.1),
        not_more 65536 _ (λ more. s.within TooManyTasks (_, ((pc, (loops, (before, (es, (r, refl))))), more))),
        not_more 65536 _ (λ more. s.within TooManyScopes (_, ((pc, (loops, (before, (es, (r, refl))))), more))),
        not_more 65536 _ (λ more. s.within TooManyBinds (_, ((pc, (loops, (before, (es, (r, refl))))), more))),
      )

  within_of : (f : ℕ) → f < length p.routines → PointsAreWithin (take f budgets_of) (routine p f).code (budget_at budgets_of f)
  within_of f low_f = by (cases_lt f (length p.routines - 1))
    where
      by : (f < length p.routines - 1) ⊎ (length p.routines - 1 ≤ f) → PointsAreWithin (take f budgets_of) (routine p f).code (budget_at budgets_of f)
      by (inl less) =
          let s = accepted.sound (length p.routines - 1) low in
          let n = long in
          let front : take f budgets_of ≡ take f s.earlier = take-append-le f s.earlier (limits ∷ []) (omega (arith, n, less)) in
          let here : budget_at budgets_of f ≡ budget_at s.earlier f = get_or_append_left s.earlier (limits ∷ []) no_budget f (omega (arith, n, less)) in
          subst (λ es. PointsAreWithin es (routine p f).code (budget_at budgets_of f)) (sym front)
          (subst (λ (b : Budgets). PointsAreWithin (take f s.earlier) (routine p f).code b) (sym here)
          (are_within p f (take f s.earlier) (budget_at s.earlier f) checked low_f (accepted.sound f low_f).typed (s.right f (omega (arith, n, less)))))
      by (inr le) =
          let s = accepted.sound (length p.routines - 1) low in
          let same : f ≡ length p.routines - 1 = omega (arith, le, low_f) in
          let whole : take (length p.routines - 1) budgets_of ≡ s.earlier = ap (λ k. take k (s.earlier ++ limits ∷ [])) (sym long) ∙ take-append_seam s.earlier (limits ∷ []) in
          subst (λ k. PointsAreWithin (take k budgets_of) (routine p k).code (budget_at budgets_of k)) (sym same)
          (subst (λ es. PointsAreWithin es (routine p (length p.routines - 1)).code (budget_at budgets_of (length p.routines - 1))) (sym whole)
          (subst (λ (b : Budgets). PointsAreWithin s.earlier (routine p (length p.routines - 1)).code b) (sym limits_main) within_main))

  pub accepted_costed : IsCosted (AreTyped p) p budgets_of
  accepted_costed = record { checked = checked; within = λ typed. within_of }

  high : IsPeaked p budgets_of
  high = record { peaks = λ f low_f pc loops before es r. (let b = within_of f low_f pc loops before es r in (b.1, b.2, b.3)) }

  -- ---- a state of a run

  modest : (events : List Event) (w : World) → Good (AreTyped p) p budgets_of w (taken p events) → Also Timely w → IsModest p events w
  modest events w o facts =
      let a = adds_up (AreTyped p) p budgets_of w (taken p events) accepted_costed high o facts in
      let s = o.sum (all_typed p accepted) in
      let at_tasks = a.tasks in
      let at_scopes = a.scopes in
      let at_binds = a.binds in
      let c_steps : (main_budget p budgets_of).steps ≡ 1000000 = ap (λ (b : Budgets). b.steps) limits_main in
      let c_tasks : (main_budget p budgets_of).tasks ≡ 65536 = ap (λ (b : Budgets). b.tasks) limits_main in
      let c_scopes : (main_budget p budgets_of).scopes ≡ 65536 = ap (λ (b : Budgets). b.scopes) limits_main in
      let c_binds : (main_budget p budgets_of).binds ≡ 65536 = ap (λ (b : Budgets). b.binds) limits_main in
      record {
        steps = omega (arith, s, c_steps);
        tasks = omega (arith, at_tasks, c_tasks);
        scopes = omega (arith, at_scopes, c_scopes);
        binds = omega (arith, at_binds, c_binds);
      }

  not_crowded : (standing born : ℕ) → standing < 65536 → born < 1000000 → is_crowded standing born ≡ false
  not_crowded standing born a b =
      let h : nat_le 65536 standing ≡ false = grind (arith, nat_tests) in
      let k : nat_le 1000000 born ≡ false = grind (arith, nat_tests) in
      rw (h, k) refl

  some_step : (es : List Budgets) (i : Instr) → 0 < steps_of es i
  some_step es (Fork x g h) = omega arith
  some_step es (Close x) = omega arith
  some_step es _ = omega arith

  has_place_for : (events : List Event) (w : World) → length w.tasks + length w.scopes ≤ taken p events + 1 → Good (AreTyped p) p budgets_of w (taken p events) → Also Timely w → (t : ℕ) (i : Instr) → lives (task_at w t) ≡ true → instr_at p (task_at w t).frame ≡ Some i → HasPlaceFor w (task_at w t).frame i
  has_place_for events w born o facts t (Open x timed joiner) alive at =
      let standing = has_room (AreTyped p) p budgets_of w (taken p events) accepted_costed high o facts t (Open x timed joiner) alive at in
      let c_steps : (main_budget p budgets_of).steps ≡ 1000000 = ap (λ (b : Budgets). b.steps) limits_main in
      let c_scopes : (main_budget p budgets_of).scopes ≡ 65536 = ap (λ (b : Budgets). b.scopes) limits_main in
      let some = o.rooted.some in
      let left = left_for (AreTyped p) p budgets_of w (taken p events) accepted_costed high o facts t (Open x timed joiner) alive at (all_typed p accepted) in
      let few = waits-few p w t (take (task_at w t).frame.function budgets_of) (Open x timed joiner) at in
      not_crowded (standing_scopes w) (length w.scopes) (omega (arith, standing, c_scopes)) (omega (arith, left, few, born, some, c_steps))
  has_place_for events w born o facts t (Fork x g h) alive at = λ s mine.
      let standing = has_room (AreTyped p) p budgets_of w (taken p events) accepted_costed high o facts t (Fork x g h) alive at s mine in
      let c_steps : (main_budget p budgets_of).steps ≡ 1000000 = ap (λ (b : Budgets). b.steps) limits_main in
      let c_tasks : (main_budget p budgets_of).tasks ≡ 65536 = ap (λ (b : Budgets). b.tasks) limits_main in
      let left = left_for (AreTyped p) p budgets_of w (taken p events) accepted_costed high o facts t (Fork x g h) alive at (all_typed p accepted) in
      let few = waits-fork p w t x g h at in
      let low_t = o.function t (born_alive w t alive) in
      let earlier = (is_checked p (task_at w t).frame.function checked low_t).earlier (task_at w t).frame.pc x g h (same_instr p (task_at w t).frame (Fork x g h) at) in
      let c : (budget_at (take (task_at w t).frame.function budgets_of) g).steps ≡ (budget_at budgets_of g).steps = ap (λ (b : Budgets). b.steps) (get_or-take (task_at w t).frame.function budgets_of g no_budget earlier) in
      let first = (within_of g (omega (arith, earlier, low_t)) 0 [] 0 [] start).0 in
      let one = some_step (take g budgets_of) (program.instr_at (routine p g).code 0) in
      not_crowded (standing_tasks w) (length w.tasks) (omega (arith, standing, c_tasks)) (omega (arith, left, few, born, c, first, one, c_steps))
  has_place_for events w born o facts t i alive at = tt

law : (P : Program → List Event → World → Type 0)
    → ((p : Program) (checked : program_fault p.routines ≡ None) (accepted : IsAccepted p) (events : List Event) (w : World) → length w.tasks + length w.scopes ≤ taken p events + 1 → Good (AreTyped p) p (budgets_of p checked accepted) w (taken p events) → Also Timely w → P p events w)
    → Accepted P
law P from p checked accepted events =
    by (after p events) (births_are_steps p events) (good-after (AreTyped p) p (budgets_of p checked accepted) (accepted_costed p checked accepted) events) (timely-after p events)
  where
    by : (x : State) → In (λ w. length w.tasks + length w.scopes ≤ taken p events + 1) x → In (λ w. Good (AreTyped p) p (budgets_of p checked accepted) w (taken p events)) x → In (Also Timely) x → In (P p events) x
    by (Running w) born o facts = from p checked accepted events w born o facts
    by (Faulted kind t f pc) born o facts = tt

pub accepted_is_modest : AcceptedIsModest
accepted_is_modest = law _ (λ p checked accepted events w born o facts. modest p checked accepted events w o facts)

pub accepted_has_place : AcceptedHasPlace
accepted_has_place = law _ (λ p checked accepted events w born o facts t i alive at. has_place_for p checked accepted events w born o facts t i alive at)
