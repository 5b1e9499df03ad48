-- The laws of costs.
use Rattle.std.proofs.Common.{◌≡◌, ℕ, ◌+◌, ◌-◌, ◌<◌, ◌≤◌, inl, List, [], ◌∷◌, Bool, true, false, Some, refl, ◌∙◌, ap, length, arith, take, get_or}
use Rattle.std.specs.Prelude.{sum_by}
use Rattle.std.proofs.lemmas.List.{get_or-take}
use Rattle.std.proofs.lemmas.List.Sums.{sum_by-cons, get_or-le-sum_by}
use Rattle.sts_code.specs.Program.{Program, routine}
use Rattle.sts_code.specs.declared.instr.Instr.{Instr}
use Rattle.sts_code.specs.declared.instr.Instr.TheVariants.{Open, Fork, Bind}
use Rattle.sts_rules.specs.declared.budget.Budgets.{Budgets}
use Rattle.sts_model.specs.declared.event.Event.{Event}
use Rattle.sts_model.specs.World.{World, State, Running, Faulted, task_at, no_task, instr_at, code}
use Rattle.sts_model.specs.declared.record.Loop.{Loop}
use Rattle.sts_code.specs.Program as programs
use Rattle.sts_model.specs.Living.{lives}
use Rattle.sts_model.specs.Misuse.{slot}
use Rattle.sts_model.specs.Standing.{is_standing_task}
use Rattle.sts_model.specs.Waiting.{stand_at}
use Rattle.sts_rules.specs.ControlPaths.{GoesTo, OpenEntry, OpenScope, OpenBinding, Loops, Comes, start, step}
use Rattle.sts_rules.specs.Budget.{shape_of, skeleton, budget_at, no_budget, entry_sum, entries_sum, entries_of, steps_of, tasks_sum, scopes_sum, binds_sum}
use Rattle.sts_model.specs.Run.{after, taken}
use Rattle.laws_runs.specs.Runs.{In}
use Rattle.laws_runs.proofs.BirthLemmas.{born_alive}
use Rattle.laws_runs.proofs.EventLemmas.{Also}
use Rattle.laws_accepted.proofs.TimelyLemmas.{Timely, timely-after}
use Rattle.sts_budget.proofs.PathLemmas.{are_within}
use Rattle.sts_budget.proofs.CheckedLemmas.{is_checked}
use Rattle.laws_accepted.specs.Points.{TasksFollowPaths, IdleHaveNoEntries, LoopsHaveTurns, HasTurns, Point, loops_of}
use Rattle.laws_accepted.specs.Costs.{HasBudgets, Costs, AreTyped, TypedCosts, main_budget, StepsAreWithin, LeavesSteps, StepsAreLeft, LeavesAStep, AStepIsLeft}
use Rattle.laws_accepted.specs.Costs.{steps_begun, TasksAreWithin, ScopesAreWithin, BindsAreWithin, Peak, tasks_peak, scopes_peak, binds_peak, share, use_of}
use Rattle.laws_accepted.specs.Costs.{entry_use, slack, room, RoomAddsUp, RoomIsSlack, HasRoomFor, HasRoom, RoomIsLeft}
use Rattle.laws_accepted.proofs.Balance.{Thrifty, not_standing, balance_tasks, balance_scopes, balance_binds}
use Rattle.laws_accepted.proofs.Flow.{Positive, positive, goes_to}
use Rattle.laws_accepted.proofs.Points.{measure_of, zips_use, sum_forked}
use Rattle.laws_accepted.proofs.Turns.{waits-few}
use Rattle.laws_accepted.proofs.Good.{IsCosted, Good, steps_left}
use Rattle.laws_accepted.proofs.Effects.{same_instr}
use Rattle.laws_accepted.proofs.CostRuns.{good-after}

-- no peak passes a budget
abbrev pub PeaksAreWithin : List Budgets → List Instr → Budgets → Type 0
PeaksAreWithin earlier code b =
    (pc : ℕ) (loops : Loops) (before : ℕ) (es : List OpenEntry) → Comes (skeleton earlier code) pc loops before es → (tasks_sum earlier es ≤ b.tasks) × (scopes_sum earlier es ≤ b.scopes) × (binds_sum earlier es ≤ b.binds)

-- at no point of a control path of the program's functions a peak is over its budget
pub record IsPeaked (p : Program) (budgets : List Budgets) : Type 0 where
  pub peaks : (f : ℕ) → f < length p.routines → PeaksAreWithin (take f budgets) (routine p f).code (budget_at budgets f)

-- the budgets of a program bound all points of its paths; they bound the steps if it is well typed
pub costed : (p : Program) (budgets : List Budgets) → HasBudgets p budgets → IsCosted (AreTyped p) p budgets
costed p budgets h =
    record {
      checked = h.checked;
      within = λ typed f low. let all = h.all in are_within p f (take f budgets) (budget_at budgets f) h.checked low (typed f low) (h.right f (omega (arith, all, low)));
    }

pub peaked : (p : Program) (budgets : List Budgets) → HasBudgets p budgets → IsPeaked p budgets
peaked p budgets h =
    record {
      peaks = λ f low pc loops before es r.
          let all = h.all in
          let is = h.right f (omega (arith, all, low)) in
          (is.tasks.1 _ (pc, (loops, (before, (es, (r, refl))))), is.scopes.1 _ (pc, (loops, (before, (es, (r, refl))))), is.binds.1 _ (pc, (loops, (before, (es, (r, refl))))));
    }

-- ---- points and budgets

-- no point has a greater sum than the budget
abbrev Bounds : Peak → Program → List Budgets → Type 0
Bounds k p budgets =
    (f : ℕ) → f < length p.routines → (pc : ℕ) (loops : Loops) (before : ℕ) (es : List OpenEntry) → Comes (skeleton (take f budgets) (routine p f).code) pc loops before es
    → k.task + entries_sum (measure_of k (take f budgets)) es ≤ k.part (budget_at budgets f)

bounds_tasks : (p : Program) (budgets : List Budgets) → IsPeaked p budgets → Bounds tasks_peak p budgets
bounds_tasks p budgets is f low pc loops before es r = (is.peaks f low pc loops before es r).0

bounds_scopes : (p : Program) (budgets : List Budgets) → IsPeaked p budgets → Bounds scopes_peak p budgets
bounds_scopes p budgets is f low pc loops before es r = let b = (is.peaks f low pc loops before es r).1 in omega (arith, b)

bounds_binds : (p : Program) (budgets : List Budgets) → IsPeaked p budgets → Bounds binds_peak p budgets
bounds_binds p budgets is f low pc loops before es r = let b = (is.peaks f low pc loops before es r).2 in omega (arith, b)

module _ (Typed : Type 0) (p : Program) (budgets : List Budgets) (w : World) (n : ℕ) (is : IsCosted Typed p budgets) (high : IsPeaked p budgets) (o : Good Typed p budgets w n) (facts : Also Timely w) where
  thrifty : (k : Peak) → Bounds k p budgets → Thrifty k budgets w
  thrifty k bounds u low = by (lives (task_at w u)) refl
    where
      by : (b : Bool) → lives (task_at w u) ≡ b → use_of k budgets w.tasks (task_at w u) ≤ share k budgets (task_at w u)
      by true alive =
          let q = (o.placed u alive).point in
          let b = bounds (task_at w u).frame.function (o.function u low) (task_at w u).frame.pc (loops_of (task_at w u).frame.loops) _ q.opened q.comes in
          let e = zips_use k budgets (take (task_at w u).frame.function budgets) w.tasks (slot (task_at w u).frame) (task_at w u).frame.entries q.opened q.zips in
          omega (arith, b, e)
      by false dead =
          let b = bounds (task_at w u).frame.function (o.function u low) 0 [] 0 [] start in
          let e : sum_by (entry_use k budgets w.tasks) (task_at w u).frame.entries ≡ 0 = ap (sum_by (entry_use k budgets w.tasks)) (o.idle u dead) in
          let z : entries_sum (measure_of k (take (task_at w u).frame.function budgets)) [] ≡ 0 = refl in
          omega (arith, b, e, z)

  root_given : (k : Peak) → share k budgets (task_at w 0) ≡ k.part (main_budget p budgets)
  root_given k = ap (λ f. k.part (budget_at budgets f)) o.rooted.main

  pub adds_up : RoomAddsUp p budgets w
  adds_up =
      record {
        tasks = balance_tasks p budgets w facts.right.sound facts.also.orderly.entered o.idle (thrifty tasks_peak (bounds_tasks p budgets high)) o.rooted ∙ root_given tasks_peak;
        scopes = balance_scopes p budgets w facts.right.sound facts.also.orderly.entered o.idle (thrifty scopes_peak (bounds_scopes p budgets high)) o.rooted ∙ root_given scopes_peak;
        binds = balance_binds p budgets w facts.right.sound facts.also.orderly.entered o.idle (thrifty binds_peak (bounds_binds p budgets high)) o.rooted ∙ root_given binds_peak;
      }

  -- ---- room

  stands : (u : ℕ) → lives (task_at w u) ≡ true → is_standing_task w (task_at w u) ≡ true
  stands u alive = by (is_standing_task w (task_at w u)) refl
    where
      by : (b : Bool) → is_standing_task w (task_at w u) ≡ b → b ≡ true
      by true e = refl
      by false e = let dead = not_standing p tasks_peak budgets w facts.right.sound facts.also.orderly.entered o.idle (thrifty tasks_peak (bounds_tasks p budgets high)) o.rooted u e in cc

  -- the rest of a living task's share is part of the room
  has_slack : (k : Peak) (t gain : ℕ) → lives (task_at w t) ≡ true → use_of k budgets w.tasks (task_at w t) + gain ≤ share k budgets (task_at w t) → gain ≤ room k budgets w
  has_slack k t gain alive fits =
      let part = get_or-le-sum_by (slack k budgets w) w.tasks t no_task (born_alive w t alive) in
      let e : slack k budgets w (task_at w t) ≡ share k budgets (task_at w t) - use_of k budgets w.tasks (task_at w t) = rw (stands t alive) refl in
      omega (arith, part, e, fits)

  -- if a step leads to a point that uses `gain` more, at least `gain` is left
  gains : (k : Peak) → Bounds k p budgets → (t : ℕ) (i : Instr) (gain : ℕ) → (alive : lives (task_at w t) ≡ true) → instr_at p (task_at w t).frame ≡ Some i → shape_of (task_at w t).frame.pc i ≡ GoesTo (((task_at w t).frame.pc + 1) ∷ [])
      → ((q : Point p budgets w.tasks (task_at w t).frame (o.placed t alive).before) → entries_sum (measure_of k (take (task_at w t).frame.function budgets)) (entries_of i q.opened) ≡ entries_sum (measure_of k (take (task_at w t).frame.function budgets)) q.opened + gain)
      → gain ≤ room k budgets w
  gains k bounds t i gain alive at shape grows =
      let q = (o.placed t alive).point in
      let here = same_instr p (task_at w t).frame i at in
      let next = step q.comes (goes_to p budgets (task_at w t).frame i (((task_at w t).frame.pc + 1) ∷ []) ((task_at w t).frame.pc + 1) here shape (inl refl)) in
      let b = bounds (task_at w t).frame.function (o.function t (born_alive w t alive)) ((task_at w t).frame.pc + 1) (loops_of (task_at w t).frame.loops) _ _ next in
      let same : entries_sum (measure_of k (take (task_at w t).frame.function budgets)) (entries_of (programs.instr_at (code p (task_at w t).frame) (task_at w t).frame.pc) q.opened) ≡ entries_sum (measure_of k (take (task_at w t).frame.function budgets)) (entries_of i q.opened) =
      ap (λ j. entries_sum (measure_of k (take (task_at w t).frame.function budgets)) (entries_of j q.opened)) here
      in
      let more = grows q in
      let e = zips_use k budgets (take (task_at w t).frame.function budgets) w.tasks (slot (task_at w t).frame) (task_at w t).frame.entries q.opened q.zips in
      has_slack k t gain alive (omega (arith, b, same, more, e))

  has_room_for : (t : ℕ) (i : Instr) → lives (task_at w t) ≡ true → instr_at p (task_at w t).frame ≡ Some i → HasRoomFor (main_budget p budgets) w (task_at w t).frame i
  has_room_for t (Open x timed joiner) alive at =
      let a = adds_up.scopes in
      let g = gains scopes_peak (bounds_scopes p budgets high) t (Open x timed joiner) 1 alive at refl
      (λ q. let s = sum_by-cons (entry_sum (measure_of scopes_peak (take (task_at w t).frame.function budgets))) (OpenScope x []) q.opened in omega (arith, s)) in
      omega (arith, a, g)
  has_room_for t (Bind key) alive at =
      let a = adds_up.binds in
      let g = gains binds_peak (bounds_binds p budgets high) t (Bind key) 1 alive at refl
      (λ q. let s = sum_by-cons (entry_sum (measure_of binds_peak (take (task_at w t).frame.function budgets))) OpenBinding q.opened in omega (arith, s)) in
      omega (arith, a, g)
  has_room_for t (Fork x g h) alive at = λ s mine.
      let a = adds_up.tasks in
      let here = same_instr p (task_at w t).frame (Fork x g h) at in
      let low = o.function t (born_alive w t alive) in
      let earlier = (is_checked p (task_at w t).frame.function is.checked low).earlier (task_at w t).frame.pc x g h here in
      let c : (budget_at (take (task_at w t).frame.function budgets) g).tasks ≡ (budget_at budgets g).tasks = ap (λ (b : Budgets). b.tasks) (get_or-take (task_at w t).frame.function budgets g no_budget earlier) in
      let r = gains tasks_peak (bounds_tasks p budgets high) t (Fork x g h) (budget_at (take (task_at w t).frame.function budgets) g).tasks alive at refl
      (λ q. sum_forked (measure_of tasks_peak (take (task_at w t).frame.function budgets)) x g q.opened (q.slots x s mine)) in
      let some = bounds_tasks p budgets high g (omega (arith, low, earlier)) 0 [] 0 [] start in
      omega (arith, a, r, c, some)
  has_room_for t i alive at = tt

  pub has_room : HasRoom p (main_budget p budgets) w
  has_room t i alive at = has_room_for t i alive at

  -- ---- steps

  pub left_for : (t : ℕ) (i : Instr) → lives (task_at w t) ≡ true → instr_at p (task_at w t).frame ≡ Some i → Typed → n + steps_of (take (task_at w t).frame.function budgets) i ≤ (main_budget p budgets).steps + steps_begun (stand_at p w t)
  left_for t i alive at y =
      let born = born_alive w t alive in
      let same = o.same in
      let sum = o.sum y in
      let a = steps_left Typed p budgets w.tasks (task_at w t).frame i (steps_begun (stand_at p w t)) (get_or o.left t 0) is (o.function t born) (same_instr p (task_at w t).frame i at) (o.placed t alive) y in
      let b = get_or-le-sum_by (λ l. l) o.left t 0 (omega (arith, same, born)) in
      omega (arith, a, b, sum)

-- ---- the laws

law : (P : Program → List Budgets → List Event → World → Type 0) → ((p : Program) (budgets : List Budgets) (events : List Event) (w : World) → IsCosted (AreTyped p) p budgets → IsPeaked p budgets → Good (AreTyped p) p budgets w (taken p events) → Also Timely w → P p budgets events w) → Costs P
law P from p budgets h events = by (after p events) (good-after (AreTyped p) p budgets is events) (timely-after p events)
  where
    is : IsCosted (AreTyped p) p budgets
    is = costed p budgets h

    by : (x : State) → In (λ w. Good (AreTyped p) p budgets w (taken p events)) x → In (Also Timely) x → In (P p budgets events) x
    by (Running w) o facts = from p budgets events w is (peaked p budgets h) o facts
    by (Faulted kind t f pc) o facts = tt

-- what holds of a program that is well typed
typed_law : (P : Program → List Budgets → List Event → World → Type 0) → Costs (λ p budgets events w. AreTyped p → P p budgets events w) → TypedCosts P
typed_law P h p budgets has typed events = by (after p events) (h p budgets has events)
  where
    by : (x : State) → In (λ w. AreTyped p → P p budgets events w) x → In (P p budgets events) x
    by (Running w) k = k typed
    by (Faulted kind t f pc) k = tt

pub steps_are_within : StepsAreWithin
steps_are_within = typed_law _ (law _ (λ p budgets events w is high o facts typed. let s = o.sum typed in omega (arith, s)))

pub steps_are_left : StepsAreLeft
steps_are_left = typed_law _ (law _ (λ p budgets events w is high o facts typed t i alive at. left_for (AreTyped p) p budgets w (taken p events) is high o facts t i alive at typed))

pub a_step_is_left : AStepIsLeft
a_step_is_left p budgets has typed events = by (after p events) (steps_are_left p budgets has typed events)
  where
    by : (x : State) → In (LeavesSteps p budgets events) x → In (LeavesAStep p (main_budget p budgets) events) x
    by (Running w) left = λ t i alive at. (
        let few = waits-few p w t (take (task_at w t).frame.function budgets) i at in
        let here = left t i alive at in
        omega (arith, few, here))
    by (Faulted kind t f pc) left = tt

pub room_is_slack : RoomIsSlack
room_is_slack = law _ (λ p budgets events w is high o facts. adds_up (AreTyped p) p budgets w (taken p events) is high o facts)

pub room_is_left : RoomIsLeft
room_is_left = law _ (λ p budgets events w is high o facts. has_room (AreTyped p) p budgets w (taken p events) is high o facts)

pub tasks_are_within : TasksAreWithin
tasks_are_within = law _ (λ p budgets events w is high o facts. let a = (adds_up (AreTyped p) p budgets w (taken p events) is high o facts).tasks in omega (arith, a))

pub scopes_are_within : ScopesAreWithin
scopes_are_within = law _ (λ p budgets events w is high o facts. let a = (adds_up (AreTyped p) p budgets w (taken p events) is high o facts).scopes in omega (arith, a))

pub binds_are_within : BindsAreWithin
binds_are_within = law _ (λ p budgets events w is high o facts. let a = (adds_up (AreTyped p) p budgets w (taken p events) is high o facts).binds in omega (arith, a))

-- ---- points, of every program

pub tasks_follow_paths : TasksFollowPaths
tasks_follow_paths p budgets checked events = by (after p events) (good-after ⊥ p budgets (record { checked = checked; within = λ never. absurd never }) events)
  where
    by : (x : State) → In (λ w. Good ⊥ p budgets w (taken p events)) x → In (λ w. (t : ℕ) → lives (task_at w t) ≡ true → (before : ℕ) × Point p budgets w.tasks (task_at w t).frame before) x
    by (Running w) o = λ t alive. ((o.placed t alive).before, (o.placed t alive).point)
    by (Faulted kind t f pc) o = tt

pub idle_have_no_entries : IdleHaveNoEntries
idle_have_no_entries p checked events = by (after p events) (good-after ⊥ p [] (record { checked = checked; within = λ never. absurd never }) events)
  where
    by : (x : State) → In (λ w. Good ⊥ p [] w (taken p events)) x → In (λ w. (t : ℕ) → lives (task_at w t) ≡ false → (task_at w t).frame.entries ≡ []) x
    by (Running w) o = o.idle
    by (Faulted kind t f pc) o = tt

turns_left : (ls : List Loop) → Positive (loops_of ls) → HasTurns ls
turns_left [] h = tt
turns_left (l ∷ ls) h = (h.0, turns_left ls h.1)

pub loops_have_turns : LoopsHaveTurns
loops_have_turns p checked events = by (after p events) (tasks_follow_paths p [] checked events)
  where
    by : (x : State) → In (λ w. (t : ℕ) → lives (task_at w t) ≡ true → (before : ℕ) × Point p [] w.tasks (task_at w t).frame before) x → In (λ w. (t : ℕ) → lives (task_at w t) ≡ true → HasTurns (task_at w t).frame.loops) x
    by (Running w) h = λ t alive. turns_left (task_at w t).frame.loops (positive _ _ _ _ _ (h t alive).1.comes)
    by (Faulted kind t f pc) h = tt
