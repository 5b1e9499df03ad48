-- Costs over whole runs.
use Rattle.std.proofs.Common.{◌≡◌, ℕ, zero, suc, ◌+◌, ◌-◌, ◌<◌, List, [], ◌∷◌, ◌++◌, Bool, true, false, Option, Some, None, refl, sym, subst, length, arith}
use Rattle.std.proofs.Common.{cond, ◌&&◌, append_assoc}
use Rattle.std.specs.Prelude.{slice_index_or}
use Rattle.std.proofs.lemmas.List.{append-nil}
use Rattle.std.proofs.lemmas.Bool.{cond_both, and_parts}
use Rattle.sts_code.specs.Program.{Program}
use Rattle.sts_code.specs.declared.instr.Instr.{Instr}
use Rattle.sts_rules.specs.declared.budget.Budgets.{Budgets}
use Rattle.sts_model.specs.declared.event.Event.{Event}
use Rattle.sts_model.specs.declared.event.Event.TheVariants as event
use Rattle.sts_model.specs.declared.event.Fault.{Fault}
use Rattle.sts_model.specs.declared.record.Slot.TheVariants as slots
use Rattle.sts_model.specs.World.{World, State, Running, Faulted, task_at, scope_at, no_task, instr_at, with_task, with_scope}
use Rattle.sts_model.specs.Living.{lives}
use Rattle.sts_model.specs.Misuse.{misuse}
use Rattle.sts_model.proofs.FineLemmas.{fine}
use Rattle.sts_model.specs.Waiting.{stand_at, can_step}
use Rattle.sts_model.specs.Effect.{effect}
use Rattle.sts_model.specs.Cancelling.{cancel}
use Rattle.sts_model.specs.Outside.{interrupt, can_expire, expire}
use Rattle.sts_rules.specs.ControlPaths.{start}
use Rattle.sts_model.specs.Run.{apply, after, stepped, perform, steps_in, taken, counts, is_step}
use Rattle.laws_runs.specs.Runs.{Between, In, Does}
use Rattle.laws_runs.specs.Later.{Later}
use Rattle.laws_runs.proofs.BirthLemmas.{born_alive, new-owns_nothing}
use Rattle.laws_runs.proofs.EventLemmas.{Also, main, always}
use Rattle.laws_runs.proofs.RunLemmas.{after-append}
use Rattle.laws_runs.proofs.StayLemmas.{steps_are_counted}
use Rattle.laws_accepted.proofs.TimelyLemmas.{Timely, timely-after}
use Rattle.laws_accepted.specs.Points.{Point}
use Rattle.laws_accepted.specs.Costs.{steps_begun, main_budget}
use Rattle.laws_accepted.proofs.RangeLemmas.{some_function}
use Rattle.laws_accepted.proofs.Turns.{IsLike, Alike, alike-refl, alike-trans, alike-scope, alike-cancel, turned-frame, each-task, waits-stay}
use Rattle.laws_accepted.proofs.Good.{IsCosted, Good, Placed, good_alike}
use Rattle.laws_accepted.proofs.Effects.{good_effect}

-- ---- events from outside

alike-interrupt : (w : World) (t : ℕ) → Alike w (interrupt w t)
alike-interrupt w t = cond_both (lives (task_at w t)) _ w (λ (v : World). Alike w v) (λ e. flagged (born_alive w t e)) (λ e. alike-refl w)
  where
    flagged : t < length w.tasks → Alike w (with_task w t (record (task_at w t) { flag = true }))
    flagged born =
        let h = turned-frame w w t (task_at w t).frame true born (alike-refl w) in
        record { count = h.count; each = λ u. each-task (λ k. IsLike (task_at w k) (task_at (with_task w t (record (task_at w t) { flag = true })) k)) t h.here h.there u }

alike-expire : (w : World) (s : ℕ) → Alike w (expire w s)
alike-expire w s =
    let v : World = with_scope w s (record (scope_at w s) { expired = true }) in
    cond_both (can_expire (scope_at w s)) (cancel v s) w (λ (x : World). Alike w x)
    (λ e. alike-trans w v (cancel v s) (alike-scope w s (record (scope_at w s) { expired = true })) (alike-cancel v s))
    (λ e. alike-refl w)

-- ---- events that are counted

-- E relates a state and the steps taken so far, and each event has to keep it
pub record Keeps (p : Program) (E : World → ℕ → Type 0) : Type 0 where
  pub effect : (w : World) (t n : ℕ) (i : Instr) → Also Timely w → Also Timely (effect p w t (task_at w t).frame i) → Later w (effect p w t (task_at w t).frame i) → Does p w t i → E w n → E (effect p w t (task_at w t).frame i) (n + 1)
  pub interrupt : (w : World) (t n : ℕ) → Also Timely w → Also Timely (interrupt w t) → Later w (interrupt w t) → E w n → E (interrupt w t) n
  pub expire : (w : World) (s n : ℕ) → Also Timely w → Also Timely (expire w s) → Later w (expire w s) → E w n → E (expire w s) n

module _ (p : Program) (E : World → ℕ → Type 0) (keeps : Keeps p E) where
  at_instr : (w : World) (t n : ℕ) → Also Timely w → E w n → can_step p w t ≡ true → misuse p w t ≡ None → (q : Option Instr) → instr_at p (task_at w t).frame ≡ q → Also Timely (perform p w t (task_at w t).frame q) → Later w (perform p w t (task_at w t).frame q) → E (perform p w t (task_at w t).frame q) (n + 1)
  at_instr w t n facts h can m None e ov later = let never = rw e at m in cc
  at_instr w t n facts h can m (Some i) e ov later =
      keeps.effect w t n i facts ov later (record { alive = (and_parts (lives (task_at w t)) _ can).0; can = can; at = e; fine = fine p w t i m e }) h

  at_step : (w : World) (t n : ℕ) → Also Timely w → E w n → can_step p w t ≡ true → (m : Option Fault) → misuse p w t ≡ m → In (Also Timely) (stepped m p w t (task_at w t).frame) → In (Later w) (stepped m p w t (task_at w t).frame) → In (λ v. E v (n + 1)) (stepped m p w t (task_at w t).frame)
  at_step w t n facts h can None e ov later = at_instr w t n facts h can e (instr_at p (task_at w t).frame) refl ov later
  at_step w t n facts h can (Some kind) e ov later = tt

  no_more : (w : World) (n : ℕ) → E w n → E w (n + 0)
  no_more w n h = let e : n ≡ n + 0 = omega arith in subst (E w) e h

  at_event : (w : World) (e : Event) (n : ℕ) → Also Timely w → In (Also Timely) (apply p (Running w) e) → In (Later w) (apply p (Running w) e) → E w n → In (λ v. E v (n + steps_in p (Running w) e)) (apply p (Running w) e)
  at_event w (event.Step t) n facts ov later h = by (can_step p w t) refl ov later
    where
      by : (b : Bool) → can_step p w t ≡ b → In (Also Timely) (cond b (stepped (misuse p w t) p w t (task_at w t).frame) (Running w)) → In (Later w) (cond b (stepped (misuse p w t) p w t (task_at w t).frame) (Running w)) → In (λ v. E v (n + cond b 1 0)) (cond b (stepped (misuse p w t) p w t (task_at w t).frame) (Running w))
      by true e a l = at_step w t n facts h e (misuse p w t) refl a l
      by false e a l = no_more w n h
  at_event w (event.Interrupt t) n facts ov later h = no_more (interrupt w t) n (keeps.interrupt w t n facts ov later h)
  at_event w (event.Expire s) n facts ov later h = no_more (expire w s) n (keeps.expire w s n facts ov later h)

  abbrev Counted : List Event → Type 0
  Counted events = In (λ w. E w (taken p events)) (after p events)

  next_count : (before : List Event) (e : Event) → taken p (before ++ e ∷ []) ≡ taken p before + steps_in p (after p before) e
  next_count before e = by (is_step e && counts p (after p before) e) refl
    where
      by : (b : Bool) → (is_step e && counts p (after p before) e) ≡ b → taken p (before ++ e ∷ []) ≡ taken p before + cond (is_step e && counts p (after p before) e) 1 0
      by true h = let c = (steps_are_counted p before e).counted h in let k : cond {A = ℕ} (is_step e && counts p (after p before) e) 1 0 ≡ 1 = rw h refl in omega (arith, c, k)
      by false h = let c = (steps_are_counted p before e).not_counted h in let k : cond {A = ℕ} (is_step e && counts p (after p before) e) 1 0 ≡ 0 = rw h refl in omega (arith, c, k)

  one_more : (before : List Event) (e : Event) → Counted before → Counted (before ++ e ∷ [])
  one_more before e h =
      let is_next : after p (before ++ e ∷ []) ≡ apply p (after p before) e = after-append p before (e ∷ []) in
      subst (λ (x : State). In (λ w. E w (taken p (before ++ e ∷ []))) x) (sym is_next)
      (subst (λ n. In (λ w. E w n) (apply p (after p before) e)) (sym (next_count before e))
      (by (after p before) (taken p before) h (timely-after p before) (subst (In (Also Timely)) is_next (timely-after p (before ++ e ∷ []))) (subst (Between (λ w v. Later w v) (after p before)) is_next (always (λ q w v. Later w v) (λ q w v k. k.later) p before (e ∷ [])))))
    where
      later_in : (w : World) (x : State) → Between (λ a b. Later a b) (Running w) x → In (Later w) x
      later_in w (Running v) l = l
      later_in w (Faulted kind t f pc) l = tt

      by : (x : State) (n : ℕ) → In (λ w. E w n) x → In (Also Timely) x → In (Also Timely) (apply p x e) → Between (λ w v. Later w v) x (apply p x e) → In (λ w. E w (n + steps_in p x e)) (apply p x e)
      by (Running w) n o facts ov later = at_event w e n facts ov (later_in w (apply p (Running w) e) later) o
      by (Faulted kind t f pc) n o facts ov later = tt

  run : (later before : List Event) → Counted before → Counted (before ++ later)
  run [] before h = subst Counted (sym (append-nil before)) h
  run (e ∷ es) before h = subst Counted (append_assoc before (e ∷ []) es) (run es (before ++ e ∷ []) (one_more before e h))

  -- a fact holds in every state of every run if it holds at the beginning and each event keeps it
  pub counted-after : E (record { tasks = main p ∷ []; scopes = [] }) 0 → (events : List Event) → In (λ w. E w (taken p events)) (after p events)
  counted-after beginning events = run events [] beginning

-- ---- costs

module _ (Typed : Type 0) (p : Program) (budgets : List Budgets) (is : IsCosted Typed p budgets) where
  -- only flags and scopes changed
  good_outside : (w v : World) (n : ℕ) → Also Timely w → Also Timely v → Later w v → Alike w v → Good Typed p budgets w n → Good Typed p budgets v n
  good_outside w v n facts ov later a o = good_alike Typed p budgets w v n o a (λ u alive. waits-stay p w v u facts.right.sound ov.also.orderly.entered later (a.each u).frame alive)

  good_keeps : Keeps p (Good Typed p budgets)
  good_keeps =
      record {
        effect = λ w t n i facts ov later d o. good_effect Typed p budgets w n t is o facts i d ov later;
        interrupt = λ w t n facts ov later o. good_outside w (interrupt w t) n facts ov later (alike-interrupt w t) o;
        expire = λ w s n facts ov later o. good_outside w (expire w s) n facts ov later (alike-expire w s) o;
      }

  -- ---- the beginning

  main_point : Point p budgets (main p ∷ []) (main p).frame 0
  main_point =
      record {
        opened = [];
        comes = start;
        zips = tt;
        slots = λ x s own. absurd (new-owns_nothing (length p.routines - 1) [] slots.Empty (λ q e. cc) x s own);
        size = refl;
      }

  beginning : Good Typed p budgets (record { tasks = main p ∷ []; scopes = [] }) 0
  beginning =
      let some = some_function p is.checked in
      record {
        left = (main_budget p budgets).steps ∷ [];
        same = refl;
        sum = λ y. (omega arith);
        placed = placed;
        function = function some;
        idle = idle;
        rooted = record { some = omega arith; root = refl; main = refl; others = λ u low none. omega (arith, low) };
      }
    where
      placed : (u : ℕ) → lives (slice_index_or (main p ∷ []) u no_task) ≡ true → Placed Typed p budgets (main p ∷ []) (slice_index_or (main p ∷ []) u no_task).frame (steps_begun (stand_at p (record { tasks = main p ∷ []; scopes = [] }) u)) (slice_index_or ((main_budget p budgets).steps ∷ []) u 0)
      placed zero alive = record { before = 0; point = main_point; steps = λ y. (omega arith) }
      placed (suc u) alive = cc

      function : 0 < length p.routines → (u : ℕ) → u < 1 → (slice_index_or (main p ∷ []) u no_task).frame.function < length p.routines
      function some zero low = omega (arith, some)
      function some (suc u) low = absurd (omega (arith, low))

      idle : (u : ℕ) → lives (slice_index_or (main p ∷ []) u no_task) ≡ false → (slice_index_or (main p ∷ []) u no_task).frame.entries ≡ []
      idle zero dead = cc
      idle (suc u) dead = refl

  -- in every state of every run it holds
  pub good-after : (events : List Event) → In (λ w. Good Typed p budgets w (taken p events)) (after p events)
  good-after = counted-after p (Good Typed p budgets) good_keeps beginning
