-- Every instruction that is no misuse keeps the facts about costs, with one step more.
use Rattle.std.proofs.Common.{◌≡◌, ℕ, ◌+◌, ◌<◌, ◌≤◌, inl, List, [], ◌∷◌, ◌++◌, Bool, true, false, Option, Some, None, refl, sym, ◌∙◌, ap, subst, length, arith}
use Rattle.std.proofs.Common.{cond, take, not, ◌&&◌, drop, get_or-set_same, get_or-set_other, length-set}
use Rattle.std.specs.Prelude.{nat_lt, unwrap_or, pos, is_some}
use Rattle.std.proofs.lemmas.Bool.{cond_both, or_parts, and_parts, not-false}
use Rattle.std.proofs.lemmas.Bool.Decides.{nat_tests}
use Rattle.std.proofs.lemmas.Option.{get_or_from_slice_get}
use Rattle.std.proofs.lemmas.List.{length-map, get_or_append_left}
use Rattle.sts_code.specs.Program.{Program, routine}
use Rattle.sts_code.specs.declared.instr.Instr.{Instr}
use Rattle.sts_code.specs.declared.instr.Instr.TheVariants.{Open, Fork, Join, Close, Cancelled, Case, Get, Except, Tally, Total, Bind, Unbind, Read, Bound}
use Rattle.sts_code.specs.declared.instr.Instr.TheVariants.{OrElse, Interrupted, Ret, Fail}
use Rattle.sts_code.specs.declared.instr.Joiner.{Joiner}
use Rattle.sts_rules.specs.declared.budget.Budgets.{Budgets}
use Rattle.sts_model.specs.declared.event.End.{End}
use Rattle.sts_model.specs.declared.event.End.TheVariants.{Success, Failed}
use Rattle.sts_model.specs.declared.event.Phase.TheVariants.{Closing, Closed}
use Rattle.sts_model.specs.declared.event.Stand.TheVariants.{Free, AtClose}
use Rattle.sts_model.specs.declared.record.Entry.{Entry}
use Rattle.sts_model.specs.declared.record.Entry.TheVariants as entry
use Rattle.sts_model.specs.declared.record.Slot.{Slot}
use Rattle.sts_model.specs.declared.record.Slot.TheVariants as slots
use Rattle.sts_model.specs.declared.record.Frame.{Frame}
use Rattle.sts_model.specs.declared.record.Task.{Task}
use Rattle.sts_model.specs.declared.record.Scope.{Scope}
use Rattle.sts_model.specs.World.{World, task_at, scope_at, no_task, no_scope, code, with_scope, with_frame, instr_at}
use Rattle.sts_code.specs.Program as program
use Rattle.sts_model.specs.Local.{local, emptied_slot, stays_in_frame, goes, steps, operand, truth}
use Rattle.sts_model.specs.Environment.{environment_of, read}
use Rattle.sts_model.specs.Living.{lives, any_lives, sub_state, ends}
use Rattle.sts_model.specs.Joining.{cancels}
use Rattle.sts_model.specs.Cancelling.{cancel}
use Rattle.sts_model.specs.Misuse.{slot, is_scope, is_lent, is_sub, is_empty, at_slot, is_entry_of, innermost, joins_wrongly}
use Rattle.sts_model.specs.Waiting.{stand_at, stand_at_instr, can_go, stands_at_close, is_closing}
use Rattle.sts_model.specs.Effect.{effect, named, with_phase, close_scope, closed, cleared, is_of, open_scope, fork_task, subtask_of, forked, bind, unbind}
use Rattle.sts_model.specs.Effect.{value_or_zero, tally, total, told, decide, tell, ended, end_task, case_target}
use Rattle.sts_rules.specs.ControlPaths.{OpenEntry, GoesTo, Follows}
use Rattle.sts_rules.specs.Budget.{budget_at, entries_of, steps_of, shape_of}
use Rattle.laws_runs.specs.Later.{Later}
use Rattle.laws_runs.proofs.BirthLemmas.{born_alive, new_scope, opener, more_tasks}
use Rattle.laws_runs.proofs.FrameLemmas.{own_slot, at_own-is, Leaves, leaves-local}
use Rattle.laws_runs.proofs.EffectLemmas.{first_no, alive_in, dead_in}
use Rattle.laws_runs.proofs.EventLemmas.{Also}
use Rattle.laws_runs.proofs.EntryLemmas.{tell_both}
use Rattle.laws_runs.specs.Runs.{Does}
use Rattle.laws_accepted.proofs.TimelyLemmas.{Timely}
use Rattle.sts_budget.proofs.CheckedLemmas.{is_checked}
use Rattle.laws_accepted.specs.Points.{loops_of, skeleton_of}
use Rattle.laws_accepted.specs.Costs.{steps_begun}
use Rattle.laws_accepted.proofs.Flow.{GoesOn, positive, goes_to}
use Rattle.laws_accepted.proofs.Points.{zips_map}
use Rattle.laws_accepted.proofs.Turns.{Alike, Turned, like-refl, like-lives, alike-refl, alike-trans, alike-scope, alike-cancel, turned-task, turned-then}
use Rattle.laws_accepted.proofs.Turns.{turned-frame, waits-few, waits-stay}
use Rattle.laws_accepted.proofs.Good.{IsCosted, Good, point_next, point_map, steps_left, turned_lent, good_turn}
use Rattle.laws_accepted.proofs.Moves.{Moves, moves_same, moves_next, case_among, moves_join, entering_bind, entering_unbind, entering_write, entering_open}
use Rattle.laws_accepted.proofs.Moves.{entering_close}
use Rattle.laws_accepted.proofs.Forks.{good_fork}
use Rattle.laws_accepted.proofs.FrameRows.{emptied-sub, in_frame_goes}
use Rattle.laws_accepted.proofs.RangeLemmas.{opens_in_range}

-- the plain machine and control paths see the same instruction
pub same_instr : (p : Program) (f : Frame) (i : Instr) → instr_at p f ≡ Some i → program.instr_at (code p f) f.pc ≡ i
same_instr p f i e = get_or_from_slice_get (code p f) f.pc i Ret e

alike-tell : (w : World) (t : ℕ) (o : Option ℕ) (end : End) → Alike w (tell w t o end)
alike-tell w t o end =
    tell_both w t o end (λ (x : World). Alike w x) (alike-refl w)
    (λ s.
    let v : World = with_scope w s (told (scope_at w s) t end) in
    alike-trans w v (decide v s) (alike-scope w s (told (scope_at w s) t end))
    (cond_both (cancels (scope_at v s).joiner (ends (scope_at v s))) (cancel v s) v (λ (x : World). Alike v x) (λ d. alike-cancel v s) (λ d. alike-refl v)))

module _ (Typed : Type 0) (p : Program) (budgets : List Budgets) (w : World) (n t : ℕ) (is : IsCosted Typed p budgets) (o : Good Typed p budgets w n) (facts : Also Timely w) where
  -- ---- a task goes on

  good_moves : (v : World) (i : Instr) → Does p w t i → Moves p budgets w v t i → ((u : ℕ) → (u ≡ t → ⊥) → lives (task_at v u) ≡ true → steps_begun (stand_at p w u) ≤ steps_begun (stand_at p v u)) → Good Typed p budgets v (n + 1)
  good_moves v i d m patient =
      let at = same_instr p (task_at w t).frame i d.at in
      let within = o.function t (born_alive w t d.alive) in
      let few = waits-few p w t (take (task_at w t).frame.function budgets) i d.at in
      good_turn Typed p budgets w v n t (record (task_at w t) { frame = m.frame }) o m.turned d.alive refl m.function
      (λ left q.
      let some = steps_left Typed p budgets w.tasks (task_at w t).frame i (steps_begun (stand_at p w t)) left is within at q in
      let entering = m.entries q.point.opened q.point.zips q.point.slots in
      let same_steps : (budget_at budgets m.frame.function).steps ≡ (budget_at budgets (task_at w t).frame.function).steps = ap (λ f. (budget_at budgets f).steps) m.function in (
        λ y. (let a = some y in omega (arith, a, few)),
        λ alive.
            record {
              before = q.before + steps_of (take (task_at w t).frame.function budgets) i;
              point = point_next p budgets w.tasks v.tasks (task_at w t).frame m.frame i q.before at m.goes m.function m.size q.point
                  (zips_map budgets (take (task_at w t).frame.function budgets) w.tasks v.tasks (slot m.frame) (slot m.frame) m.frame.entries (entries_of i q.point.opened) (λ x s has e. e)
                  (λ k s has. turned_lent Typed p budgets w v n t (record (task_at w t) { frame = m.frame }) m.turned refl m.function k s) entering.0)
                  entering.1;
              steps = λ y. (let a = some y in let b = q.steps y in omega (arith, a, few, b, same_steps));
            },
      ))
      (λ dead. let alive = d.alive in cc)
      patient

  -- ---- the end of a task

  good_ends : (i : Instr) (end : End) → Does p w t i → nat_lt 0 (length (task_at w t).frame.entries) ≡ false → ((u : ℕ) → (u ≡ t → ⊥) → lives (task_at (end_task w t (task_at w t).frame end) u) ≡ true → steps_begun (stand_at p w u) ≤ steps_begun (stand_at p (end_task w t (task_at w t).frame end) u)) → Good Typed p budgets (end_task w t (task_at w t).frame end) (n + 1)
  unfolding end_task
  good_ends i end d none patient =
      let x : Task = record (task_at w t) { frame = steps (task_at w t).frame 1 []; outcome = Some end } in
      let born = born_alive w t d.alive in
      let at = same_instr p (task_at w t).frame i d.at in
      let few = waits-few p w t (take (task_at w t).frame.function budgets) i d.at in
      let over : World = ended w t (task_at w t).frame end in
      good_turn Typed p budgets w (tell over t (task_at w t).scope end) n t x o
      (turned-then w over (tell over t (task_at w t).scope end) t x (turned-task w w t x x born (alike-refl w) (like-refl x)) (alike-tell over t (task_at w t).scope end))
      d.alive refl refl
      (λ left q.
      let some = steps_left Typed p budgets w.tasks (task_at w t).frame i (steps_begun (stand_at p w t)) left is (o.function t born) at q in
      (λ y. (let a = some y in omega (arith, a, few)), λ alive. absurd (dead_end (task_at w t).started alive)))
      (λ dead. nothing (task_at w t).frame.entries none)
      patient
    where
      dead_end : (b : Bool) → (b && false) ≡ true → ⊥
      dead_end true e = cc
      dead_end false e = cc

      nothing : (es : List Entry) → nat_lt 0 (length es) ≡ false → es ≡ []
      nothing [] e = refl
      nothing (y ∷ es) e = let h : length (y ∷ es) ≤ 0 = grind (arith, nat_tests) in absurd (omega (arith, h))

  -- ---- a close that waits

  -- it did not wait before
  did_not_wait : (x s : ℕ) → Does p w t (Close x) → slot (task_at w t).frame x ≡ slots.Own s → any_lives w s ≡ true → steps_begun (stand_at p w t) ≡ 0
  did_not_wait x s d mine some = by (is_closing (scope_at w s).phase) refl
    where
      stand : stand_at p w t ≡ stands_at_close w (slots.Own s)
      stand = ap (stand_at_instr p w t) d.at ∙ ap (stands_at_close w) mine

      by : (b : Bool) → is_closing (scope_at w s).phase ≡ b → steps_begun (stand_at p w t) ≡ 0
      by false e = ap steps_begun stand ∙ ap (λ c. steps_begun (cond c (AtClose s) Free)) e
      by true e =
          let there : stand_at p w t ≡ AtClose s = stand ∙ ap (λ c. cond c (AtClose s) Free) e in
          let can : can_go w (task_at w t) (stand_at p w t) ≡ true = (and_parts (lives (task_at w t)) _ d.can).1 in
          let none : not (any_lives w s) ≡ true = subst (λ a. can_go w (task_at w t) a ≡ true) there can in
          let never : not true ≡ true = subst (λ b. not b ≡ true) some none in
          cc

  -- it waits now
  waits_now : (x s : ℕ) (v : World) → Does p w t (Close x) → slot (task_at w t).frame x ≡ slots.Own s → (task_at v t).frame ≡ (task_at w t).frame → is_closing (scope_at v s).phase ≡ true → steps_begun (stand_at p v t) ≡ 1
  waits_now x s v d mine same closing =
      let at : instr_at p (task_at v t).frame ≡ Some (Close x) = ap (instr_at p) same ∙ d.at in
      let own : slot (task_at v t).frame x ≡ slots.Own s = ap (λ (f : Frame). slot f x) same ∙ mine in
      let stand : stand_at p v t ≡ stands_at_close v (slots.Own s) = ap (stand_at_instr p v t) at ∙ ap (stands_at_close v) own in
      ap steps_begun stand ∙ ap (λ c. steps_begun (cond c (AtClose s) Free)) closing

  -- a scope of an alike world has the same living subtasks
  lives_before : (v : World) (s : ℕ) → Alike w v → any_lives v s ≡ true → any_lives w s ≡ true
  lives_before v s a some = by (any_lives w s) refl
    where
      by : (b : Bool) → any_lives w s ≡ b → b ≡ true
      by true e = refl
      by false e =
          let h = alive_in v s some in
          let dead = dead_in w s h.0 e (sym (a.each h.0).scope ∙ h.1) in
          let alive : lives (task_at w h.0) ≡ true = sym (like-lives (task_at w h.0) (task_at v h.0) (a.each h.0)) ∙ h.2 in
          cc

  good_waits : (x s : ℕ) → Does p w t (Close x) → slot (task_at w t).frame x ≡ slots.Own s → s < length w.scopes → any_lives (cancel w s) s ≡ true → ((u : ℕ) → (u ≡ t → ⊥) → lives (task_at (with_phase (cancel w s) s Closing) u) ≡ true → steps_begun (stand_at p w u) ≤ steps_begun (stand_at p (with_phase (cancel w s) s Closing) u)) → Good Typed p budgets (with_phase (cancel w s) s Closing) (n + 1)
  good_waits x s d mine born some patient =
      let v : World = with_phase (cancel w s) s Closing in
      let a : Alike w v = alike-trans w (cancel w s) v (alike-cancel w s) (alike-scope (cancel w s) s (record (scope_at (cancel w s) s) { phase = Closing })) in
      let zero_before = did_not_wait x s d mine (lives_before (cancel w s) s (alike-cancel w s) some) in
      let now_closing : is_closing (scope_at v s).phase ≡ true = ap (λ (scope : Scope). is_closing scope.phase) (get_or-set_same (cancel w s).scopes s (record (scope_at (cancel w s) s) { phase = Closing }) no_scope (cancel_born born)) in
      let one_now = waits_now x s v d mine (a.each t).frame now_closing in
      let at = same_instr p (task_at w t).frame (Close x) d.at in
      let turned : Turned w v t (task_at w t) = record { count = a.count; here = a.each t; there = λ u other. a.each u } in
      good_turn Typed p budgets w v n t (task_at w t) o turned d.alive refl refl
      (λ left q.
      let low = steps_left Typed p budgets w.tasks (task_at w t).frame (Close x) (steps_begun (stand_at p w t)) left is (o.function t (born_alive w t d.alive)) at q in (
        λ y. (let a = low y in omega (arith, a, zero_before)),
        λ alive.
            record {
              before = q.before;
              point = point_map p budgets w.tasks v.tasks (task_at w t).frame q.before (λ k r has. turned_lent Typed p budgets w v n t (task_at w t) turned refl refl k r) q.point;
              steps = λ y. (let a = low y in let b = q.steps y in omega (arith, a, zero_before, one_now, b));
            },
      ))
      (λ dead. let alive = d.alive in cc)
      patient
    where
      cancel_born : s < length w.scopes → s < length (cancel w s).scopes
      cancel_born low = cond_both (scope_at w s).cancelled w _ (λ (u : World). s < length u.scopes) (λ e. low) (λ e. let c = length-set w.scopes s (record (scope_at w s) { cancelled = true }) in omega (arith, c, low))

  -- ---- every instruction

  -- the others wait as they did
  patient : (v : World) (x : Task) → Turned w v t x → Also Timely v → Later w v → (u : ℕ) → (u ≡ t → ⊥) → lives (task_at v u) ≡ true → steps_begun (stand_at p w u) ≤ steps_begun (stand_at p v u)
  patient v x h ov later u other alive = waits-stay p w v u facts.right.sound ov.also.orderly.entered later (h.there u other).frame alive

  moved : (v : World) (i : Instr) → Does p w t i → Moves p budgets w v t i → Also Timely v → Later w v → Good Typed p budgets v (n + 1)
  moved v i d m ov later = good_moves v i d m (patient v (record (task_at w t) { frame = m.frame }) m.turned ov later)

  next_place : (i : Instr) → Does p w t i → shape_of (task_at w t).frame.pc i ≡ GoesTo (((task_at w t).frame.pc + 1) ∷ []) → Follows (skeleton_of p budgets (task_at w t).frame) (task_at w t).frame.pc (loops_of (task_at w t).frame.loops) ((task_at w t).frame.pc + 1) (loops_of (task_at w t).frame.loops)
  next_place i d shape = goes_to p budgets (task_at w t).frame i (((task_at w t).frame.pc + 1) ∷ []) ((task_at w t).frame.pc + 1) (same_instr p (task_at w t).frame i d.at) shape (inl refl)

  -- a frame that only the task changes
  goes_next : (i : Instr) (m : ℕ) (pushed : _) → Does p w t i → shape_of (task_at w t).frame.pc i ≡ GoesTo (((task_at w t).frame.pc + 1) ∷ []) → ((os : List OpenEntry) → entries_of i os ≡ os) → Moves p budgets w (with_frame w t (steps (task_at w t).frame m pushed)) t i
  goes_next i m pushed d shape keeps =
      moves_next p budgets w (with_frame w t (steps (task_at w t).frame m pushed)) t i m pushed
      (turned-frame w w t (steps (task_at w t).frame m pushed) (task_at w t).flag (born_alive w t d.alive) (alike-refl w))
      (next_place i d shape)
      keeps

  in_frame_moves : (i : Instr) → stays_in_frame i ≡ true → Does p w t i → ((os : List OpenEntry) → entries_of i os ≡ os) → Moves p budgets w (with_frame w t (local (code p (task_at w t).frame) i (task_at w t).frame)) t i
  in_frame_moves i is d keeps = by (emptied_slot i) refl (leaves-local (code p f) i f)
    where
      f : Frame
      f = (task_at w t).frame

      g : Frame
      g = local (code p f) i f

      turned : Turned w (with_frame w t g) t (record (task_at w t) { frame = g })
      turned = turned-frame w w t g (task_at w t).flag (born_alive w t d.alive) (alike-refl w)

      goes_on : GoesOn p budgets f g
      goes_on = in_frame_goes p budgets f i is (same_instr p f i d.at) d.fine.loops (positive _ _ _ _ _ (o.placed t d.alive).point.comes)

      owns_nothing : (q : Slot) (s : ℕ) → is_sub q ≡ true → q ≡ slots.Own s → ⊥
      owns_nothing q s e h = let none : false ≡ true = ap is_sub (sym h) ∙ e in cc

      by : (emptied : Option ℕ) → emptied_slot i ≡ emptied → Leaves f g emptied → Moves p budgets w (with_frame w t g) t i
      by None e same = moves_same p budgets w (with_frame w t g) t i g turned goes_on same keeps
      by (Some x) e same =
          record {
            frame = g;
            turned = turned;
            goes = goes_on;
            function = same.function;
            size = ap (λ (xs : List Slot). length xs) same.slots ∙ length-set f.slots x slots.Empty;
            entries = entering_write budgets w.tasks f g i x slots.Empty same.entries same.slots (λ s q. cc) (λ s q. owns_nothing (slot f x) s (emptied-sub f i x d.fine.slots e) q) keeps;
          }

  case_moves : (x success failed : ℕ) (q : Option End) → Does p w t (Case x success failed) → Moves p budgets w (with_frame w t (goes (task_at w t).frame (case_target q success failed ((task_at w t).frame.pc + 1)) 0 [])) t (Case x success failed)
  case_moves x success failed q d =
      moves_same p budgets w _ t (Case x success failed) (goes (task_at w t).frame (case_target q success failed ((task_at w t).frame.pc + 1)) 0 [])
      (turned-frame w w t (goes (task_at w t).frame (case_target q success failed ((task_at w t).frame.pc + 1)) 0 []) (task_at w t).flag (born_alive w t d.alive) (alike-refl w))
      (goes_to p budgets (task_at w t).frame (Case x success failed) (success ∷ failed ∷ ((task_at w t).frame.pc + 1) ∷ []) _ (same_instr p (task_at w t).frame (Case x success failed) d.at) refl (case_among q success failed ((task_at w t).frame.pc + 1)))
      (record { function = refl; entries = refl; slots = refl })
      (λ os. refl)

  open_moves : (x : ℕ) (joiner : Joiner) (timed : Bool) → Does p w t (Open x timed joiner) → Moves p budgets w (open_scope w t (task_at w t).frame x joiner timed) t (Open x timed joiner)
  unfolding open_scope
  open_moves x joiner timed d =
      let q = (o.placed t d.alive).point in
      let at = same_instr p (task_at w t).frame (Open x timed joiner) d.at in
      let low = opens_in_range p (task_at w t).frame.function (task_at w t).frame.pc x joiner timed is.checked (o.function t (born_alive w t d.alive)) at in
      record {
        frame = opener w (task_at w t).frame x;
        turned = turned-frame w (record w { scopes = w.scopes ++ new_scope w t joiner timed ∷ [] }) t (opener w (task_at w t).frame x) (task_at w t).flag (born_alive w t d.alive) (record { count = refl; each = λ u. like-refl (task_at w u) });
        goes = next_place (Open x timed joiner) d refl;
        function = refl;
        size = length-set (task_at w t).frame.slots x (slots.Own (length w.scopes));
        entries = entering_open budgets w (task_at w t).frame x joiner timed facts.right.sound q.size low (not-false (is_empty (slot (task_at w t).frame x)) d.fine.slots);
      }

  bind_moves : (k : ℕ) → Does p w t (Bind k) → Moves p budgets w (bind w t (task_at w t).frame k) t (Bind k)
  bind_moves k d =
      record {
        frame = record (steps (task_at w t).frame 1 []) { entries = entry.Binding k (operand (task_at w t).frame 0) ∷ (task_at w t).frame.entries };
        turned = turned-frame w w t (record (steps (task_at w t).frame 1 []) { entries = entry.Binding k (operand (task_at w t).frame 0) ∷ (task_at w t).frame.entries }) (task_at w t).flag (born_alive w t d.alive) (alike-refl w);
        goes = next_place (Bind k) d refl;
        function = refl;
        size = refl;
        entries = entering_bind budgets w.tasks (task_at w t).frame k;
      }

  unbind_moves : Does p w t Unbind → Moves p budgets w (unbind w t (task_at w t).frame) t Unbind
  unbind_moves d =
      record {
        frame = record (steps (task_at w t).frame 0 []) { entries = drop 1 (task_at w t).frame.entries };
        turned = turned-frame w w t (record (steps (task_at w t).frame 0 []) { entries = drop 1 (task_at w t).frame.entries }) (task_at w t).flag (born_alive w t d.alive) (alike-refl w);
        goes = next_place Unbind d refl;
        function = refl;
        size = refl;
        entries = entering_unbind budgets w.tasks (task_at w t).frame d.fine.structure;
      }

  closed_moves : (x s : ℕ) → Does p w t (Close x) → not (innermost (is_entry_of s) (task_at w t).frame.entries) ≡ false → Moves p budgets w (closed (cancel w s) t (task_at w t).frame s) t (Close x)
  closed_moves x s d first =
      let u : World = cancel w s in
      let a : Alike w (with_phase u s Closed) = alike-trans w u (with_phase u s Closed) (alike-cancel w s) (alike-scope u s (record (scope_at u s) { phase = Closed })) in
      record {
        frame = record (steps (task_at w t).frame 0 []) { entries = drop 1 (task_at w t).frame.entries; slots = cleared u s (task_at w t).frame.slots };
        turned = turned-frame w (with_phase u s Closed) t (record (steps (task_at w t).frame 0 []) { entries = drop 1 (task_at w t).frame.entries; slots = cleared u s (task_at w t).frame.slots }) (task_at u t).flag (born_alive w t d.alive) a;
        goes = next_place (Close x) d refl;
        function = refl;
        size = length-map (task_at w t).frame.slots (λ q. cond (is_of u s q) slots.Empty q);
        entries = entering_close budgets w u (task_at w t).frame x s first (facts.also.orderly.entered.once t s);
      }

  -- the slot of an instruction on a scope of the task's own
  mine : (x : ℕ) → not (is_scope (slot (task_at w t).frame x)) ≡ false → is_lent (slot (task_at w t).frame x) ≡ false → slot (task_at w t).frame x ≡ slots.Own (named (slot (task_at w t).frame x))
  mine x a b = own_slot (slot (task_at w t).frame x) a b

  close_effect : (x : ℕ) → Does p w t (Close x) → Also Timely (close_scope w t (task_at w t).frame (named (slot (task_at w t).frame x))) → Later w (close_scope w t (task_at w t).frame (named (slot (task_at w t).frame x))) → Good Typed p budgets (close_scope w t (task_at w t).frame (named (slot (task_at w t).frame x))) (n + 1)
  unfolding close_scope
  close_effect x d =
      let s : ℕ = named (slot (task_at w t).frame x) in
      let own = mine x (first_no _ _ (first_no _ _ d.fine.slots)) d.fine.own in
      let first : not (innermost (is_entry_of s) (task_at w t).frame.entries) ≡ false = sym (at_own-is w (slot (task_at w t).frame x) (λ r scope. not (innermost (is_entry_of r) (task_at w t).frame.entries)) own) ∙ d.fine.structure in
      cond_both (any_lives (cancel w s) s) (with_phase (cancel w s) s Closing) (closed (cancel w s) t (task_at w t).frame s) (λ (v : World). Also Timely v → Later w v → Good Typed p budgets v (n + 1))
      (λ some ov later.
      let a : Alike w (with_phase (cancel w s) s Closing) = alike-trans w (cancel w s) (with_phase (cancel w s) s Closing) (alike-cancel w s) (alike-scope (cancel w s) s (record (scope_at (cancel w s) s) { phase = Closing })) in
      good_waits x s d own (facts.right.sound.own t x s own).born some
      (λ u other alive. waits-stay p w (with_phase (cancel w s) s Closing) u facts.right.sound ov.also.orderly.entered later (a.each u).frame alive))
      (λ none ov later. moved (closed (cancel w s) t (task_at w t).frame s) (Close x) d (closed_moves x s d first) ov later)

  fork_effect : (x g : ℕ) (h : Option ℕ) → Does p w t (Fork x g h) → Also Timely (fork_task p w t (task_at w t).frame (named (slot (task_at w t).frame x)) g h) → Later w (fork_task p w t (task_at w t).frame (named (slot (task_at w t).frame x)) g h) → Good Typed p budgets (fork_task p w t (task_at w t).frame (named (slot (task_at w t).frame x)) g h) (n + 1)
  unfolding fork_task
  fork_effect x g h d ov later =
      let s : ℕ = named (slot (task_at w t).frame x) in
      let own = mine x (first_no _ _ (first_no _ _ d.fine.slots)) d.fine.own in
      let at = same_instr p (task_at w t).frame (Fork x g h) d.at in
      let earlier = (is_checked p (task_at w t).frame.function is.checked (o.function t (born_alive w t d.alive))).earlier (task_at w t).frame.pc x g h at in
      good_fork Typed p budgets w n t x s g h is o d.alive at own facts.also.orderly.entered (facts.right.sound.own t x s own) (empty h (or_parts _ (at_slot (task_at w t).frame h (λ q. not (is_empty q))) d.fine.slots).1) earlier d.at
      (λ u other low alive. waits-stay p w _ u facts.right.sound ov.also.orderly.entered later (same_frame u other low) alive)
    where
      empty : (k : Option ℕ) → at_slot (task_at w t).frame k (λ q. not (is_empty q)) ≡ false → (y : ℕ) → k ≡ Some y → is_empty (slot (task_at w t).frame y) ≡ true
      empty None e y q = cc
      empty (Some z) e y q = let same : z ≡ y = cc in rw (← same) (not-false (is_empty (slot (task_at w t).frame z)) e)

      same_frame : (u : ℕ) → (u ≡ t → ⊥) → u < length w.tasks → (task_at (fork_task p w t (task_at w t).frame (named (slot (task_at w t).frame x)) g h) u).frame ≡ (task_at w u).frame
      same_frame u other low =
          let c : Task = subtask_of p w (task_at w t).frame (named (slot (task_at w t).frame x)) g in
          ap (λ (y : Task). y.frame)
          (get_or-set_other (w.tasks ++ c ∷ []) t u (record (task_at (more_tasks w c) t) { frame = forked (task_at w t).frame (routine p g).args h (length w.tasks) }) no_task other
          ∙ get_or_append_left w.tasks (c ∷ []) no_task u low)

  end_effect : (i : Instr) (end : End) → Does p w t i → nat_lt 0 (length (task_at w t).frame.entries) ≡ false → Also Timely (end_task w t (task_at w t).frame end) → Later w (end_task w t (task_at w t).frame end) → Good Typed p budgets (end_task w t (task_at w t).frame end) (n + 1)
  unfolding end_task
  end_effect i end d none ov later =
      let x : Task = record (task_at w t) { frame = steps (task_at w t).frame 1 []; outcome = Some end } in
      let over : World = ended w t (task_at w t).frame end in
      let h : Turned w (tell over t (task_at w t).scope end) t x = turned-then w over (tell over t (task_at w t).scope end) t x (turned-task w w t x x (born_alive w t d.alive) (alike-refl w) (like-refl x)) (alike-tell over t (task_at w t).scope end) in
      good_ends i end d none (patient (tell over t (task_at w t).scope end) x h ov later)

  -- an instruction that is no misuse, and one step more
  pub good_effect : (i : Instr) → Does p w t i → Also Timely (effect p w t (task_at w t).frame i) → Later w (effect p w t (task_at w t).frame i) → Good Typed p budgets (effect p w t (task_at w t).frame i) (n + 1)
  good_effect (Open x timed joiner) d ov later = moved _ (Open x timed joiner) d (open_moves x joiner timed d) ov later
  good_effect (Fork x g h) d ov later = fork_effect x g h d ov later
  good_effect (Join x failed timeout interrupted) d ov later =
      let s : ℕ = named (slot (task_at w t).frame x) in
      let own = mine x (first_no _ _ (first_no _ _ d.fine.slots)) d.fine.own in
      let right : joins_wrongly (task_at w t).frame failed timeout (scope_at w s) ≡ false = sym (at_own-is w (slot (task_at w t).frame x) (λ r scope. joins_wrongly (task_at w t).frame failed timeout scope) own) ∙ d.fine.joins in
      moved _ (Join x failed timeout interrupted) d (moves_join p budgets w t x failed timeout interrupted (born_alive w t d.alive) (same_instr p (task_at w t).frame (Join x failed timeout interrupted) d.at) s right (facts.also.timely s)) ov later
  good_effect (Close x) d ov later = close_effect x d ov later
  good_effect (Case x success failed) d ov later = moved _ (Case x success failed) d (case_moves x success failed (sub_state w (named (slot (task_at w t).frame x))) d) ov later
  good_effect (Bind k) d ov later = moved _ (Bind k) d (bind_moves k d) ov later
  good_effect Unbind d ov later = moved _ Unbind d (unbind_moves d) ov later
  good_effect Ret d ov later = end_effect Ret (Success (operand (task_at w t).frame 0)) d d.fine.structure ov later
  good_effect Fail d ov later = end_effect Fail (Failed (operand (task_at w t).frame 0)) d d.fine.structure ov later
  good_effect Interrupted d ov later =
      moved _ Interrupted d
      (moves_next p budgets w _ t Interrupted 0 (truth (task_at w t).flag ∷ []) (turned-frame w w t (steps (task_at w t).frame 0 (truth (task_at w t).flag ∷ [])) false (born_alive w t d.alive) (alike-refl w)) (next_place Interrupted d refl) (λ os. refl))
      ov later
  good_effect (Cancelled x) d ov later = moved _ (Cancelled x) d (goes_next (Cancelled x) 0 (truth (scope_at w (named (slot (task_at w t).frame x))).cancelled ∷ []) d refl (λ os. refl)) ov later
  good_effect (Get x) d ov later = moved _ (Get x) d (goes_next (Get x) 0 (value_or_zero (sub_state w (named (slot (task_at w t).frame x))) ∷ []) d refl (λ os. refl)) ov later
  good_effect (Except x) d ov later = moved _ (Except x) d (goes_next (Except x) 0 (value_or_zero (sub_state w (named (slot (task_at w t).frame x))) ∷ []) d refl (λ os. refl)) ov later
  good_effect (Tally x k) d ov later = moved _ (Tally x k) d (goes_next (Tally x k) 0 (pos (tally w (named (slot (task_at w t).frame x)) k) ∷ []) d refl (λ os. refl)) ov later
  good_effect (Total x) d ov later = moved _ (Total x) d (goes_next (Total x) 0 (total w (named (slot (task_at w t).frame x)) ∷ []) d refl (λ os. refl)) ov later
  good_effect (Read k) d ov later = moved _ (Read k) d (goes_next (Read k) 0 (unwrap_or (read (environment_of (task_at w t) w) k) (pos 0) ∷ []) d refl (λ os. refl)) ov later
  good_effect (Bound k) d ov later = moved _ (Bound k) d (goes_next (Bound k) 0 (truth (is_some (read (environment_of (task_at w t) w) k)) ∷ []) d refl (λ os. refl)) ov later
  good_effect (OrElse k) d ov later = moved _ (OrElse k) d (goes_next (OrElse k) 1 (unwrap_or (read (environment_of (task_at w t) w) k) (operand (task_at w t).frame 0) ∷ []) d refl (λ os. refl)) ov later
  good_effect i d ov later = moved _ i d (in_frame_moves i refl d (λ os. refl)) ov later
