-- Instructions that change no more than the frame of their task.
use Rattle.std.proofs.Common.{◌≡◌, ℕ, ◌+◌, inl, List, [], ◌∷◌, ◌++◌, ◌⊎◌, inr, cond, ◌<◌, Bool, true, false, Option, Some, None, refl, sym, ◌∙◌, ap, subst}
use Rattle.std.proofs.Common.{drop, set, not, ◌||◌, ◌&&◌, arith}
use Rattle.std.specs.Prelude.{slice_get, count_by, filter_map, unwrap_or, pos, is_some}
use Rattle.std.proofs.lemmas.Bool.{and_parts, not-false}
use Rattle.sts_code.specs.Program.{Program}
use Rattle.sts_code.specs.declared.instr.Instr.{Instr}
use Rattle.sts_code.specs.declared.instr.Instr.TheVariants.{Cancelled, Case, Get, Except, Tally, Total, Open, Fork, Join, Close, Ret, Fail, Bind, Unbind, Read}
use Rattle.sts_code.specs.declared.instr.Instr.TheVariants.{Bound, OrElse, Interrupted}
use Rattle.sts_code.specs.Facts.{is_two}
use Rattle.sts_code.specs.declared.instr.Kind.{Kind}
use Rattle.sts_code.specs.declared.instr.Kind.TheVariants.{S, F, U}
use Rattle.sts_model.specs.declared.event.End.{End}
use Rattle.sts_model.specs.declared.event.End.TheVariants.{Success, Failed}
use Rattle.sts_model.specs.declared.record.Entry.{Entry}
use Rattle.sts_model.specs.declared.record.Entry.TheVariants as entry
use Rattle.sts_model.specs.declared.record.Frame.{Frame}
use Rattle.sts_model.specs.declared.event.Phase.TheVariants.{Closing}
use Rattle.sts_model.specs.declared.record.Scope.{Scope}
use Rattle.sts_model.specs.declared.record.Slot.{Slot}
use Rattle.sts_model.specs.declared.record.Slot.TheVariants as slots
use Rattle.sts_model.specs.World.{World, task_at, scope_at, with_frame, instr_at, code}
use Rattle.sts_model.specs.Local as locals
use Rattle.sts_model.specs.Local.{emptied_slot, stays_in_frame, goes, steps, truth, operand}
use Rattle.sts_model.specs.Living.{lives, completion_of, scope_of, parent, sub_state}
use Rattle.sts_model.specs.Misuse.{slot, is_sub, is_scope, innermost, is_binding, has_succeeded, has_failed, at_sub, is_readable, is_illegal, is_joined, at_own}
use Rattle.sts_model.specs.Environment.{environment_of, bound_of, read}
use Rattle.sts_model.specs.Effect.{named, with_slot, case_target, value_or_zero, tally, total, moved, effect}
use Rattle.sts_model.specs.Joining.{is_success, is_failure, total_of}
use Rattle.laws_runs.specs.Runs.{Does}
use Rattle.laws_runs.proofs.BirthLemmas.{born_alive}
use Rattle.laws_runs.proofs.EffectLemmas.{first_no}
use Rattle.laws_runs.proofs.EventLemmas.{Next}
use Rattle.laws_runs.proofs.StayLemmas.{ended_is_dead}
use Rattle.laws_runs.proofs.FrameLemmas.{at_own-is, Leaves, leaves-local, own_slot}
use Rattle.laws_runs.specs.Tallies.{is_kind}
use Rattle.laws_calls.specs.Outside.{Outside}
use Rattle.laws_calls.specs.Fitting.{Answers, heard_in, most}
use Rattle.laws_calls.specs.Held as held
use Rattle.laws_calls.specs.Tasks.{AllTwo, at_place, HasWay, Part, Seen, Own, bare, births_in, held_at}
use Rattle.laws_calls.specs.Tasks.{Knowledge, Unseen, ByJoiner, Heard, bindings, May, Asked, Late}
use Rattle.laws_calls.specs.Steps.{Row, Table, Steps, IsTable, born_by, to, alone, with_handle, pushes, after_cancel, counted, summed, parts_with, split, told, after_expiry, expired_step, saw_failure, may_decide, may_be_late, is_heard}
use Rattle.laws_calls.specs.Steps.{local_step, read_step, bound_step, or_else_step, bind_step, unbind_step}
use Rattle.laws_calls.specs.Steps.{calm_step, interrupted_step, lent_step, lent_cancelled_step, going_step, cancelled_step, success_step, failure_step}
use Rattle.laws_calls.specs.Steps.{missed_step, get_step, except_step, tally_step, total_step, only, kept, missed, with_part, with_seen}
use Rattle.laws_calls.specs.Covers.{PartFits, SeenFits, HeldFits, FrameFits, TaskFits, IsRight, IsTimely, InOrder, subs, FlagMayBe, IsCovered, Covers, alive_in}
use Rattle.laws_calls.proofs.Lists.{all_set, Apart, kept_way, no, at_among}
use Rattle.laws_calls.proofs.Turns.{Facts, FlagsHaveCause, apart_births, free_around, births_has, known_as, parts_as}
use Rattle.laws_calls.proofs.Moves.{Turned, goes_by, covers_turned, turned_frame, turned_flag, fits_later, turned_subs}
use Rattle.laws_calls.proofs.Moves.{OwnScope, own_scope, OwnSub, own_sub, held_lent, held_slot, put_seen, put_part}
use Rattle.laws_calls.proofs.Births.{step_left}
use Rattle.laws_calls.proofs.Counts.{states_in, tally_states}
use Rattle.laws_calls.proofs.Totals.{total_states, count_states}
use Rattle.laws_calls.proofs.Early.{order_saw, order_put, order_missed}
use Rattle.laws_calls.proofs.Possible.{decided_on_time, are_possible, counts_cancelled, pick_fits, unknown, unheard, few_free, settled_fits, counts_most, undecided}
use Rattle.laws_calls.specs.Triggers.{is_trigger}
use Rattle.laws_calls.proofs.Frames.{bare_local, blank_bounds, blank_drop}

-- does the instruction change no more than the frame and the flag of its task?
abbrev pub changes_frame_alone : Instr → Bool
changes_frame_alone (Open x timed joiner) = false
changes_frame_alone (Fork x g h) = false
changes_frame_alone (Join x failed timeout interrupted) = false
changes_frame_alone (Close x) = false
changes_frame_alone Ret = false
changes_frame_alone Fail = false
changes_frame_alone _ = true

-- a step of the table, to a state that fits the frame g in the state before
pub record StepsTo (p : Program) (outside : Outside) (t : Table) (rows : ℕ → Row) (w : World) (u : ℕ) (own : Own) (i : Instr) (g : Frame) : Type 0 where
  pub next : Own
  pub step : Steps p outside (rows u).call own i next
  pub fits : FrameFits rows w g next

pub instr_of : (p : Program) (f : Frame) (own : Own) (i : Instr) → bare f ≡ own.frame → instr_at p f ≡ Some i → instr_at p own.frame ≡ Some i
instr_of p f own i same at = subst (λ (z : Frame). instr_at p z ≡ Some i) same at

pub sub_slot : (x : Slot) → not (is_sub x) ≡ false → x ≡ slots.Sub (named x)
sub_slot (slots.Sub u) e = refl
sub_slot _ e = cc

at_sub-is : (w : World) (x : Slot) (test : ℕ → Scope → Bool) → x ≡ slots.Sub (named x) → at_sub w x test ≡ test (named x) (scope_of w (named x))
at_sub-is w (slots.Sub u) test e = refl
at_sub-is w _ test e = cc

-- a subtask that may be read is in the state for it
readable_success : (p : Program) (w : World) (f : Frame) (x : ℕ) → slot f x ≡ slots.Sub (named (slot f x)) → is_illegal p w f (Get x) ≡ false → has_succeeded (sub_state w (named (slot f x))) ≡ true
readable_success p w f x mine e =
    let a = is_readable p.profile (scope_of w (named (slot f x))) in
    let b = has_succeeded (sub_state w (named (slot f x))) in
    (and_parts a b (not-false (a && b) (sym (at_sub-is w (slot f x) (λ q scope. not (is_readable p.profile scope && has_succeeded (sub_state w q))) mine) ∙ e))).1

readable_failure : (p : Program) (w : World) (f : Frame) (x : ℕ) → slot f x ≡ slots.Sub (named (slot f x)) → is_illegal p w f (Except x) ≡ false → has_failed (sub_state w (named (slot f x))) ≡ true
readable_failure p w f x mine e =
    let a = is_readable p.profile (scope_of w (named (slot f x))) in
    let b = has_failed (sub_state w (named (slot f x))) in
    (and_parts a b (not-false (a && b) (sym (at_sub-is w (slot f x) (λ q scope. not (is_readable p.profile scope && has_failed (sub_state w q))) mine) ∙ e))).1

-- a scope whose subtasks may be read is joined
joined_scope : (p : Program) (w : World) (f : Frame) (x : ℕ) → slot f x ≡ slots.Own (named (slot f x)) → at_own w (slot f x) (λ n scope. not (is_readable p.profile scope)) ≡ false → is_joined (scope_at w (named (slot f x))).phase ≡ true
joined_scope p w f x mine e = by (is_joined (scope_at w (named (slot f x))).phase) (is_two p.profile || not (scope_at w (named (slot f x))).expired) (sym (at_own-is w (slot f x) (λ n scope. not (is_readable p.profile scope)) mine) ∙ e)
  where
    by : (a b : Bool) → not (a && b) ≡ false → a ≡ true
    by true b d = refl
    by false b d = cc

split_self : (a b : Bool) → a ≡ true → (a && cond b b (not b)) ≡ true
split_self true true e = refl
split_self true false e = refl
split_self false b e = cc

module _ (p : Program) (outside : Outside) (t : Table) (root : Row) (is : IsTable p outside t root) (w : World) (h : Facts w) where
  -- the task goes on with the frame g, and no scope changes
  pub covers_alone : (c : Covers p outside t root w) (v : World) (u : ℕ) (i : Instr) (g : Frame) → Next w v → FlagsHaveCause outside w v → Turned w v u g 0 → ((s : ℕ) → scope_at v s ≡ scope_at w s) → Does p w u i
      → (IsCovered outside w u → (own : Own) → TaskFits outside c.rows w u own → StepsTo p outside t c.rows w u own i g) → Covers p outside t root v
  covers_alone c v u i g n flags turned scopes d moves =
      covers_turned p outside t root w v h n flags c u g 0 0 turned (λ wide. refl) d.alive
      (λ owed own k.
      let m = moves owed own k in
      goes_by c.rows v u g own m.next 0 (born_by outside i) (omega arith) (step_left p outside (c.rows u).call own i m.next m.step)
      (is.closed (c.rows u) own m.next i (c.listed u) k.there (instr_of p (task_at w u).frame own i k.fits.frame d.at) m.step)
      (are_possible c.rows w h.right (births_in g.entries) m.next.scopes m.fits.scopes)
      (fits_later w v h n c.rows g m.next scopes (turned_subs turned) m.fits))

  -- ---- frames

  -- the slots, where one may be emptied
  held_emptied : (rows : ℕ → Row) (f : Frame) (own : Own) (emptied : Option ℕ) → FrameFits rows w f own → AllTwo (HeldFits w (births_in f.entries)) (with_slot f.slots emptied slots.Empty) (with_handle own.held emptied held.Empty)
  held_emptied rows f own None k = k.held
  held_emptied rows f own (Some x) k = all_set (HeldFits w (births_in f.entries)) f.slots own.held x slots.Empty held.Empty k.held tt

  -- another frame with the same entries and slots, where a slot may be emptied
  fits_leaves : (rows : ℕ → Row) (f g : Frame) (own : Own) (next : Frame) (emptied : Option ℕ) → Leaves f g emptied → FrameFits rows w f own → bare g ≡ next → FrameFits rows w g (record own { frame = next; held = with_handle own.held emptied held.Empty })
  fits_leaves rows f g own next emptied same k e =
      record {
        frame = e;
        held = subst (λ es. AllTwo (HeldFits w (births_in es)) g.slots (with_handle own.held emptied held.Empty)) (sym same.entries)
            (subst (λ (xs : List Slot). AllTwo (HeldFits w (births_in f.entries)) xs (with_handle own.held emptied held.Empty)) (sym same.slots) (held_emptied rows f own emptied k));
        scopes = subst (λ es. AllTwo (SeenFits rows w) (births_in es) own.scopes) (sym same.entries) k.scopes;
      }

  leaves_refl : (f : Frame) (to_pc n : ℕ) (pushed : _) → Leaves f (goes f to_pc n pushed) None
  leaves_refl f to_pc n pushed = record { function = refl; entries = refl; slots = refl }

  operand_same : (f : Frame) (own : Own) (i : ℕ) → bare f ≡ own.frame → operand f i ≡ operand own.frame i
  operand_same f own i e = ap (λ (z : Frame). operand z i) e

  -- at the next place
  fits_steps : (rows : ℕ → Row) (f : Frame) (own : Own) (n : ℕ) (pushed : _) → FrameFits rows w f own → FrameFits rows w (steps f n pushed) (to own (steps own.frame n pushed))
  fits_steps rows f own n pushed k = fits_leaves rows f (steps f n pushed) own (steps own.frame n pushed) None (leaves_refl f (f.pc + 1) n pushed) k (ap (λ (z : Frame). steps z n pushed) k.frame)

  -- ---- the frame alone

  module _ (rows : ℕ → Row) (u : ℕ) (own : Own) (k : TaskFits outside rows w u own) where
    abbrev f : Frame
    f = (task_at w u).frame

    to_local : (i : Instr) → stays_in_frame i ≡ true → StepsTo p outside t rows w u own i (locals.local (code p f) i f)
    to_local i stays =
        record {
          next = alone p own i;
          step = local_step stays;
          fits = fits_leaves rows f (locals.local (code p f) i f) own (locals.local (code p own.frame) i own.frame) (emptied_slot i) (leaves-local (code p f) i f) k.fits
              (bare_local (code p f) i f ∙ ap (λ (z : Frame). locals.local (code p z) i z) k.fits.frame);
        }

    -- a state that differs in an operand alone
    to_pushes : (i : Instr) (n : ℕ) (a b : _) → a ≡ b → Steps p outside (rows u).call own i (pushes own n b) → StepsTo p outside t rows w u own i (steps f n (a ∷ []))
    to_pushes i n a b e step =
        record {
          next = pushes own n b;
          step = step;
          fits = subst (λ z. FrameFits rows w (steps f n (a ∷ [])) (pushes own n z)) e (fits_steps rows f own n (a ∷ []) k.fits);
        }

    to_interrupted : StepsTo p outside t rows w u own Interrupted (steps f 0 (truth (task_at w u).flag ∷ []))
    to_interrupted = by (task_at w u).flag k.flag
      where
        by : (b : Bool) → FlagMayBe outside b → StepsTo p outside t rows w u own Interrupted (steps f 0 (truth b ∷ []))
        by false may = to_pushes Interrupted 0 (truth false) (truth false) refl calm_step
        by true may = to_pushes Interrupted 0 (truth true) (truth true) refl (interrupted_step (may refl))

    pub bindings_same : environment_of (task_at w u) w ≡ bindings (rows u).call own
    bindings_same =
        ap (λ bs. bs ++ (scope_of w u).environment) (sym (blank_bounds f.entries) ∙ ap (λ (z : Frame). filter_map bound_of z.entries) k.fits.frame)
        ∙ ap (λ e. filter_map bound_of own.frame.entries ++ e) k.environment

    to_read : (x : ℕ) → StepsTo p outside t rows w u own (Read x) (moved p w u f (Read x))
    to_read x = to_pushes (Read x) 0 _ _ (ap (λ bs. unwrap_or (read bs x) (pos 0)) bindings_same) read_step

    to_bound : (x : ℕ) → StepsTo p outside t rows w u own (Bound x) (moved p w u f (Bound x))
    to_bound x = to_pushes (Bound x) 0 _ _ (ap (λ bs. truth (is_some (read bs x))) bindings_same) bound_step

    to_or_else : (x : ℕ) → StepsTo p outside t rows w u own (OrElse x) (moved p w u f (OrElse x))
    to_or_else x =
        to_pushes (OrElse x) 1 _ _
        (ap (λ bs. unwrap_or (read bs x) (operand f 0)) bindings_same ∙ ap (λ d. unwrap_or (read (bindings (rows u).call own) x) d) (operand_same f own 0 k.fits.frame))
        or_else_step

    to_bind : (x : ℕ) → StepsTo p outside t rows w u own (Bind x) (record (steps f 1 []) { entries = entry.Binding x (operand f 0) ∷ f.entries })
    to_bind x =
        record {
          next = to own (record (steps own.frame 1 []) { entries = entry.Binding x (operand own.frame 0) ∷ own.frame.entries });
          step = bind_step;
          fits = record {
            frame = ap (λ (z : Frame). record (steps z 1 []) { entries = entry.Binding x (operand z 0) ∷ z.entries }) k.fits.frame;
            held = k.fits.held;
            scopes = k.fits.scopes;
          };
        }

    births_unbind : (es : List Entry) → not (innermost is_binding es) ≡ false → births_in (drop 1 es) ≡ births_in es
    births_unbind [] e = refl
    births_unbind (entry.Binding x v ∷ es) e = refl
    births_unbind (entry.Scope s ∷ es) e = cc

    to_unbind : not (innermost is_binding f.entries) ≡ false → StepsTo p outside t rows w u own Unbind (record (steps f 0 []) { entries = drop 1 f.entries })
    to_unbind legal =
        record {
          next = to own (record (steps own.frame 0 []) { entries = drop 1 own.frame.entries });
          step = unbind_step;
          fits = record {
            frame = ap (λ es. record (steps (bare f) 0 []) { entries = es }) (blank_drop f.entries) ∙ ap (λ (z : Frame). record (steps z 0 []) { entries = drop 1 z.entries }) k.fits.frame;
            held = subst (λ bs. AllTwo (HeldFits w bs) f.slots own.held) (sym (births_unbind f.entries legal)) k.fits.held;
            scopes = subst (λ bs. AllTwo (SeenFits rows w) bs own.scopes) (sym (births_unbind f.entries legal)) k.fits.scopes;
          };
        }

    -- ---- scopes and subtasks that are read

    abbrev opened : List ℕ
    opened = births_in f.entries

    apart : lives (task_at w u) ≡ true → Apart opened
    apart alive = apart_births f.entries (λ s has. (h.entered u s alive has).once)

    -- the same, with another scope at a place
    fits_seen : lives (task_at w u) ≡ true → (place s : ℕ) (x : Seen) (g : Frame) (next : Frame) → Leaves f g None → bare g ≡ next → at_place opened place ≡ Some s → SeenFits rows w s x → FrameFits rows w g (to (with_seen own place x) next)
    fits_seen alive place s x g next same e at new =
        fits_leaves rows f g (with_seen own place x) next None same
        (record { frame = k.fits.frame; held = k.fits.held; scopes = put_seen rows w opened own.scopes place s x k.fits.scopes (apart alive) at new })
        e

    to_cancelled : ((s : ℕ) → IsTimely (scope_at w s)) → lives (task_at w u) ≡ true → IsCovered outside w u → (x : ℕ) → not (is_scope (slot f x)) ≡ false → StepsTo p outside t rows w u own (Cancelled x) (moved p w u f (Cancelled x))
    to_cancelled timely alive owed x legal = by (slot f x) refl legal
      where
        -- the scope is cancelled
        pushed : (s : ℕ) (o : OwnScope rows w f own x s) (y : Seen) → SeenFits rows w s y → Steps p outside (rows u).call own (Cancelled x) (pushes (with_seen own o.place y) 0 (truth true)) → StepsTo p outside t rows w u own (Cancelled x) (steps f 0 (truth true ∷ []))
        pushed s o y new step =
            record {
              next = pushes (with_seen own o.place y) 0 (truth true);
              step = step;
              fits = fits_seen alive o.place s y (steps f 0 (truth true ∷ [])) (steps own.frame 0 (truth true ∷ [])) (leaves_refl f (f.pc + 1) 0 (truth true ∷ []))
                  (ap (λ (z : Frame). steps z 0 (truth true ∷ [])) k.fits.frame) o.at new;
            }

        by_joiner : (s : ℕ) (o : OwnScope rows w f own x s) → (scope_at w s).cancelled ≡ true → may_decide o.seen.knowledge ≡ true → StepsTo p outside t rows w u own (Cancelled x) (steps f 0 (truth true ∷ []))
        by_joiner s o e may = pushed s o (after_cancel o.seen) (known_as o.seen o.fits ByJoiner e (λ is joined. decided_on_time rows w s o.seen o.fits may joined) (counts_cancelled o.seen.knowledge o.seen.phase o.seen.joiner _ may o.fits.counts)) (cancelled_step o.place o.seen o.owns may)

        by_expiry : (s : ℕ) (o : OwnScope rows w f own x s) → (scope_at w s).cancelled ≡ true → (scope_at w s).expired ≡ true → may_be_late o.seen.knowledge ≡ true → StepsTo p outside t rows w u own (Cancelled x) (steps f 0 (truth true ∷ []))
        by_expiry s o e late may =
            pushed s o (after_expiry o.seen) (known_as o.seen o.fits Late (e, late) (λ is joined. cc) (counts_most o.seen.knowledge o.seen.phase o.seen.joiner _ o.fits.counts))
            (expired_step o.place o.seen o.owns may (o.fits.timed ∙ timely s late))

        -- what was known of a scope that has expired
        gone_late : (s : ℕ) (o : OwnScope rows w f own x s) → (scope_at w s).cancelled ≡ true → (scope_at w s).expired ≡ true → (q : Knowledge) → o.seen.knowledge ≡ q → StepsTo p outside t rows w u own (Cancelled x) (steps f 0 (truth true ∷ []))
        gone_late s o e late Unseen is = by_expiry s o e late (ap may_be_late is)
        gone_late s o e late Late is = by_expiry s o e late (ap may_be_late is)
        gone_late s o e late ByJoiner is = by_joiner s o e (ap may_decide is)
        gone_late s o e late Heard is = absurd (no (sym (ap is_heard is) ∙ unheard o.seen.knowledge (scope_at w s) o.fits.known e))

        gone : (s : ℕ) (o : OwnScope rows w f own x s) → (scope_at w s).cancelled ≡ true → (b : Bool) → (scope_at w s).expired ≡ b → StepsTo p outside t rows w u own (Cancelled x) (steps f 0 (truth true ∷ []))
        gone s o e false on_time = by_joiner s o e (undecided o.seen.knowledge (scope_at w s) o.fits.known e on_time)
        gone s o e true late = gone_late s o e late o.seen.knowledge refl

        by_own : (s : ℕ) → slot f x ≡ slots.Own s → OwnScope rows w f own x s → (b : Bool) → (scope_at w s).cancelled ≡ b → StepsTo p outside t rows w u own (Cancelled x) (steps f 0 (truth b ∷ []))
        by_own s mine o false e =
            let fits = pick_fits rows w h.right s o.seen o.fits in
            let few = few_free w h s (h.right.sound.own u x s mine).born e o.seen.joiner o.fits.joiner in
            record {
              next = pushes own 0 (truth false);
              step = going_step o.place o.seen (states_in w s) o.owns (unknown o.seen.knowledge (scope_at w s) o.fits.known e) fits
                  (subst (λ n. n < most o.seen.joiner) (count_states w h.right s (is_trigger o.seen.joiner)) few);
              fits = fits_steps rows f own 0 (truth false ∷ []) k.fits;
            }
        by_own s mine o true e = gone s o e (scope_at w s).expired refl

        -- the task is covered though its scope is cancelled
        wide : (s : ℕ) → (task_at w u).scope ≡ Some s → (scope_at w s).cancelled ≡ true → IsCovered outside w u → outside.cancels ≡ true
        wide s inside gone_s (inl any) = any
        wide s inside gone_s (inr watched) = absurd (no (sym gone_s ∙ free_around w h.right u s inside watched))

        by_lent : (s : ℕ) → (task_at w u).scope ≡ Some s → held_at own x ≡ held.Lent → (b : Bool) → (scope_at w s).cancelled ≡ b → StepsTo p outside t rows w u own (Cancelled x) (steps f 0 (truth b ∷ []))
        by_lent s inside lent b e = record { next = pushes own 0 (truth b); step = step b e; fits = fits_steps rows f own 0 (truth b ∷ []) k.fits }
          where
            step : (b : Bool) → (scope_at w s).cancelled ≡ b → Steps p outside (rows u).call own (Cancelled x) (pushes own 0 (truth b))
            step false e = lent_step lent
            step true e = lent_cancelled_step lent (wide s inside e owed)

        by : (q : Slot) → slot f x ≡ q → not (is_scope q) ≡ false → StepsTo p outside t rows w u own (Cancelled x) (steps f 0 (truth (scope_at w (named q)).cancelled ∷ []))
        by (slots.Own s) e d = by_own s e (own_scope rows w f own x s k.fits e) (scope_at w s).cancelled refl
        by (slots.Lent s) e d =
            let inside = ((h.names u x alive).lent s e).1 in
            let lent : held_at own x ≡ held.Lent = held_lent w opened s (held_at own x) (subst (λ z. HeldFits w opened z (held_at own x)) e (held_slot rows w f own x k.fits)) in
            by_lent s inside lent (scope_at w s).cancelled refl
        by slots.Empty e d = cc
        by (slots.Sub q) e d = cc

    -- the state of the subtask that a slot names
    state_of : (x : ℕ) → (o : OwnSub rows w f own x (named (slot f x))) → sub_state w (named (slot f x)) ≡ completion_of (scope_at w o.scope).completions (named (slot f x))
    state_of x o = ap (λ q. completion_of (parent w q).completions (named (slot f x))) o.inside

    -- the same, with another part
    to_part : lives (task_at w u) ≡ true → (i : Instr) (x : ℕ) (o : OwnSub rows w f own x (named (slot f x))) (part : Part) (g next : Frame) → (is_joined o.seen.phase ≡ false → InOrder o.seen.has_failure (scope_at w o.scope) (subs w o.scope) (set o.seen.parts o.i part)) → Leaves f g None → bare g ≡ next
        → PartFits rows (alive_in w) (scope_at w o.scope) (named (slot f x)) part
        → Steps p outside (rows u).call own i (to (with_part own o.place o.seen o.i part) next) → StepsTo p outside t rows w u own i g
    to_part alive i x o part g next order same e new step =
        record {
          next = to (with_part own o.place o.seen o.i part) next;
          step = step;
          fits = fits_seen alive o.place o.scope _ g next same e o.at (put_part rows w o.scope o.seen o.i (named (slot f x)) part order o.fits o.sub new);
        }

    -- a subtask that has ended heard doesn't live any more
    module _ (alive : lives (task_at w u) ≡ true) (x : ℕ) (o : OwnSub rows w f own x (named (slot f x))) where
      abbrev c : ℕ
      c = named (slot f x)

      abbrev state : Option End
      state = completion_of (scope_at w o.scope).completions c

      -- a part that has the end that the subtask came to
      ended_part : (part : Part) (e : End) → state ≡ Some e → HasWay part.ways e → PartFits rows (alive_in w) (scope_at w o.scope) c part
      ended_part part e is2 way =
          record {
            may = subst (λ q. May part q) (sym is2) way;
            whole = λ lives_c free e2 way2. (let dead = ended_is_dead (task_at w c) e ((h.right.told o.scope).ended c e is2) in absurd (no (sym lives_c ∙ dead)));
          }

      way_of : (e : End) → state ≡ Some e → HasWay o.part.ways e
      way_of e is2 = subst (λ q. May o.part q) is2 o.may.may

      open_of : state ≡ None → o.part.is_open ≡ true
      open_of is2 = subst (λ q. May o.part q) is2 o.may.may

      -- the part keeps its mark
      keeps_order : (y : Seen) (part : Part) → SeenFits rows w o.scope y → slice_get y.parts o.i ≡ Some o.part → part.is_early ≡ o.part.is_early → is_joined y.phase ≡ false → InOrder y.has_failure (scope_at w o.scope) (subs w o.scope) (set y.parts o.i part)
      keeps_order y part seen known early q = order_put y.has_failure (scope_at w o.scope) (subs w o.scope) y.parts o.i o.part part known early (seen.order q)

      missed_part : state ≡ None → PartFits rows (alive_in w) (scope_at w o.scope) c (missed o.seen.knowledge o.seen.has_failure o.part)
      missed_part is2 = by o.seen.knowledge o.seen.has_failure o.fits.known
        where
          gone : (scope_at w o.scope).cancelled ≡ true → PartFits rows (alive_in w) (scope_at w o.scope) c (record o.part { ways = []; is_open = true })
          gone cancelled = record { may = subst (λ q. May (record o.part { ways = []; is_open = true }) q) (sym is2) refl; whole = λ a free e way. absurd (no (sym cancelled ∙ free)) }

          by : (q : Knowledge) (b : Bool) → IsRight q (scope_at w o.scope) → PartFits rows (alive_in w) (scope_at w o.scope) c (missed q b o.part)
          by Unseen false r = o.may
          by Unseen true r = record { may = o.may.may; whole = o.may.whole }
          by Late b r = gone r.0
          by ByJoiner b r = gone r
          by Heard b r =
              record {
                may = subst (λ q. May (record o.part { ways = []; is_open = true }) q) (sym is2) refl;
                whole = λ a free e way. (let dead = h.settled o.scope c r.1 r.0 o.inside in absurd (no (sym a ∙ dead)));
              }

      to_case : (success failed : ℕ) → StepsTo p outside t rows w u own (Case x success failed) (goes f (case_target state success failed (f.pc + 1)) 0 [])
      to_case success failed = by state refl
        where
          -- the part has ended by an end that counts, or by another
          to_told : (to_pc : ℕ) (test : End → Bool) (end : End) (y : Seen) → SeenFits rows w o.scope y → slice_get y.parts o.i ≡ Some o.part → state ≡ Some end → test end ≡ true
              → Steps p outside (rows u).call own (Case x success failed) (to (with_seen own o.place (told y o.i o.part (is_trigger y.joiner end) test)) (goes own.frame to_pc 0 []))
              → StepsTo p outside t rows w u own (Case x success failed) (goes f to_pc 0 [])
          to_told to_pc test end y seen known e passes step =
              let counting : Bool = is_trigger y.joiner end in
              let part : Part = kept (split y.joiner counting test) o.part in
              let fits : PartFits rows (alive_in w) (scope_at w o.scope) c part =
              ended_part part end e (kept_way (split y.joiner counting test) o.part.ways end (split_self (test end) counting passes) (way_of end e))
              in
              let born = (h.entered u o.scope alive (births_has f.entries o.scope (at_among (births_in f.entries) o.place o.scope o.at))).born in
              record {
                next = to (with_seen own o.place (told y o.i o.part counting test)) (goes own.frame to_pc 0 []);
                step = step;
                fits = fits_seen alive o.place o.scope (told y o.i o.part counting test) (goes f to_pc 0 []) (goes own.frame to_pc 0 []) (leaves_refl f to_pc 0 [])
                    (ap (λ (z : Frame). goes z to_pc 0 []) k.fits.frame) o.at
                    (settled_fits rows w h o.scope born (parts_with y o.i part) (put_part rows w o.scope y o.i c part (keeps_order y part seen known refl) seen o.sub fits));
              }

          saw_fits : (v : _) → state ≡ Some (Failed v) → SeenFits rows w o.scope (saw_failure o.seen)
          saw_fits v e =
              parts_as o.seen o.fits o.seen.parts o.seen.asked true o.fits.parts (λ q. order_saw w h.right o.scope (PartFits rows (alive_in w) (scope_at w o.scope)) o.seen.parts o.fits.parts o.seen.has_failure (o.fits.order q) c v e) o.fits.asked

          by : (q : Option End) → state ≡ q → StepsTo p outside t rows w u own (Case x success failed) (goes f (case_target q success failed (f.pc + 1)) 0 [])
          by None e =
              to_part alive (Case x success failed) x o (missed o.seen.knowledge o.seen.has_failure o.part) (goes f (f.pc + 1) 0 []) (goes own.frame (own.frame.pc + 1) 0 []) (λ q. order_missed o.seen.has_failure (scope_at w o.scope) (subs w o.scope) o.seen.parts o.i c o.part o.sub e o.knows.known o.seen.knowledge (o.fits.order q)) (leaves_refl f (f.pc + 1) 0 [])
              (ap (λ (z : Frame). goes z (z.pc + 1) 0 []) k.fits.frame) (missed_part e) (missed_step o.place o.seen o.i o.part o.knows (open_of e))
          by (Some (Success v)) e =
              to_told success is_success (Success v) o.seen o.fits o.knows.known e refl (success_step o.place o.seen o.i o.part (is_trigger o.seen.joiner (Success v)) o.knows)
          by (Some (Failed v)) e =
              to_told failed is_failure (Failed v) (saw_failure o.seen) (saw_fits v e) o.knows.known e refl (failure_step o.place o.seen o.i o.part (is_trigger o.seen.joiner (Failed v)) o.knows)

      -- an instruction that reads an end which passes a test pushes its value
      to_value : (i : Instr) (test : Option End → Bool) → test None ≡ false
          → ((e : End) → state ≡ Some e → test (Some e) ≡ true → Steps p outside (rows u).call own i (pushes (with_part own o.place o.seen o.i (only e o.part)) 0 (value_or_zero (Some e))))
          → test state ≡ true → StepsTo p outside t rows w u own i (steps f 0 (value_or_zero state ∷ []))
      to_value i test none step = by state refl
        where
          by : (q : Option End) → state ≡ q → test q ≡ true → StepsTo p outside t rows w u own i (steps f 0 (value_or_zero q ∷ []))
          by None e legal = absurd (no (sym legal ∙ none))
          by (Some end) e legal =
              let value = value_or_zero (Some end) in
              to_part alive i x o (only end o.part) (steps f 0 (value ∷ [])) (steps own.frame 0 (value ∷ [])) (keeps_order o.seen (only end o.part) o.fits o.knows.known refl) (leaves_refl f (f.pc + 1) 0 (value ∷ []))
              (ap (λ (z : Frame). steps z 0 (value ∷ [])) k.fits.frame)
              (ended_part (only end o.part) end e (inl refl))
              (step end e legal)

      -- the value of a success, or of a failure
      reads_success : (e : End) → state ≡ Some e → has_succeeded (Some e) ≡ true → Steps p outside (rows u).call own (Get x) (pushes (with_part own o.place o.seen o.i (only e o.part)) 0 (value_or_zero (Some e)))
      reads_success (Success v) e legal = get_step o.place o.seen o.i o.part v o.knows (way_of (Success v) e)
      reads_success (Failed v) e legal = cc

      reads_failure : (e : End) → state ≡ Some e → has_failed (Some e) ≡ true → Steps p outside (rows u).call own (Except x) (pushes (with_part own o.place o.seen o.i (only e o.part)) 0 (value_or_zero (Some e)))
      reads_failure (Failed v) e legal = except_step o.place o.seen o.i o.part v o.knows (way_of (Failed v) e)
      reads_failure (Success v) e legal = cc

      to_get : has_succeeded state ≡ true → StepsTo p outside t rows w u own (Get x) (steps f 0 (value_or_zero state ∷ []))
      to_get = to_value (Get x) has_succeeded refl reads_success

      to_except : has_failed state ≡ true → StepsTo p outside t rows w u own (Except x) (steps f 0 (value_or_zero state ∷ []))
      to_except = to_value (Except x) has_failed refl reads_failure

    -- ---- counts

    -- the owner got an answer
    seen_asked : (s : ℕ) (x : Seen) (asked : Asked) → SeenFits rows w s x → is_joined (scope_at w s).phase ≡ true → Answers asked (states_in w s) → SeenFits rows w s (record x { asked = asked })
    seen_asked s x asked k2 joined answers = parts_as x k2 x.parts asked x.has_failure k2.parts k2.order (inr (now k2.phase, answers))
      where
        now : ((scope_at w s).phase ≡ x.phase) ⊎ ((scope_at w s).phase ≡ Closing) → is_joined x.phase ≡ true
        now (inl same) = sym (ap is_joined same) ∙ joined
        now (inr same) = absurd (no (sym joined ∙ ap is_joined same))

    counted_answers : (kind : Kind) (x : Seen) (pick : List (Option End)) → Answers x.asked pick → Answers (counted kind (count_by (is_kind kind) pick) x).asked pick
    counted_answers S x pick a = record { successes = refl; failures = a.failures; unavailable = a.unavailable; total = a.total }
    counted_answers F x pick a = record { successes = a.successes; failures = refl; unavailable = a.unavailable; total = a.total }
    counted_answers U x pick a = record { successes = a.successes; failures = a.failures; unavailable = refl; total = a.total }

    seen_counted : (kind : Kind) (n : ℕ) (s : ℕ) (x : Seen) → SeenFits rows w s x → is_joined (scope_at w s).phase ≡ true → Answers (counted kind n x).asked (states_in w s) → SeenFits rows w s (counted kind n x)
    seen_counted S n s x k2 joined answers = seen_asked s x (counted S n x).asked k2 joined answers
    seen_counted F n s x k2 joined answers = seen_asked s x (counted F n x).asked k2 joined answers
    seen_counted U n s x k2 joined answers = seen_asked s x (counted U n x).asked k2 joined answers

    -- the value is pushed, and the scope changes
    to_answer : lives (task_at w u) ≡ true → (i : Instr) (place s : ℕ) (x : Seen) (a b : _) → a ≡ b → at_place opened place ≡ Some s → SeenFits rows w s x → Steps p outside (rows u).call own i (pushes (with_seen own place x) 0 b) → StepsTo p outside t rows w u own i (steps f 0 (a ∷ []))
    to_answer alive i place s x a b e at new step =
        record {
          next = pushes (with_seen own place x) 0 b;
          step = step;
          fits = subst (λ v. FrameFits rows w (steps f 0 (v ∷ [])) (pushes (with_seen own place x) 0 b)) (sym e)
              (fits_seen alive place s x (steps f 0 (b ∷ [])) (steps own.frame 0 (b ∷ [])) (leaves_refl f (f.pc + 1) 0 (b ∷ [])) (ap (λ (z : Frame). steps z 0 (b ∷ [])) k.fits.frame) at new);
        }

    to_tally : lives (task_at w u) ≡ true → (x : ℕ) (kind : Kind) (s : ℕ) → slot f x ≡ slots.Own s → is_joined (scope_at w s).phase ≡ true → StepsTo p outside t rows w u own (Tally x kind) (steps f 0 (pos (tally w s kind) ∷ []))
    to_tally alive x kind s mine joined =
        let o = own_scope rows w f own x s k.fits mine in
        let pick = pick_fits rows w h.right s o.seen o.fits in
        let n : ℕ = count_by (is_kind kind) (states_in w s) in
        to_answer alive (Tally x kind) o.place s (counted kind n o.seen) (pos (tally w s kind)) (pos n) (ap (λ m. pos m) (tally_states w h s kind)) o.at
        (seen_counted kind n s o.seen o.fits joined (counted_answers kind o.seen (states_in w s) pick.asked))
        (tally_step o.place o.seen (states_in w s) o.owns pick)

    to_total : lives (task_at w u) ≡ true → (x s : ℕ) → slot f x ≡ slots.Own s → is_joined (scope_at w s).phase ≡ true → StepsTo p outside t rows w u own (Total x) (steps f 0 (total w s ∷ []))
    to_total alive x s mine joined =
        let o = own_scope rows w f own x s k.fits mine in
        let pick = pick_fits rows w h.right s o.seen o.fits in
        let sum = total_of (heard_in (states_in w s)) in
        to_answer alive (Total x) o.place s (summed sum o.seen) (total w s) sum (total_states w h.right s) o.at
        (seen_asked s o.seen (summed sum o.seen).asked o.fits joined (record { successes = pick.asked.successes; failures = pick.asked.failures; unavailable = pick.asked.unavailable; total = refl }))
        (total_step o.place o.seen (states_in w s) o.owns pick)

  -- ---- all of them

  module _ (c : Covers p outside t root w) (u : ℕ) where
    abbrev frame : Frame
    frame = (task_at w u).frame

    -- an instruction whose effect is another frame
    with_next : (i : Instr) (g : Frame) → Next w (with_frame w u g) → FlagsHaveCause outside w (with_frame w u g) → Does p w u i
        → (IsCovered outside w u → (own : Own) → TaskFits outside c.rows w u own → StepsTo p outside t c.rows w u own i g) → Covers p outside t root (with_frame w u g)
    with_next i g n flags d moves = covers_alone c (with_frame w u g) u i g n flags (turned_frame w u g (born_alive w u d.alive)) (λ s. refl) d moves

    abbrev pub Gives : Instr → Type 0
    Gives i = Next w (effect p w u frame i) → FlagsHaveCause outside w (effect p w u frame i) → Does p w u i → Covers p outside t root (effect p w u frame i)

    -- the slot of a subtask
    named_sub : (i : Instr) (x : ℕ) (b : Bool) → (not (is_sub (slot frame x)) || b) ≡ false → slot frame x ≡ slots.Sub (named (slot frame x))
    named_sub i x b e = sub_slot (slot frame x) (first_no _ b e)

    -- an instruction that reads the end of a subtask which passes a test
    reads_end : (i : Instr) (x : ℕ) (test : Option End → Bool) → slot frame x ≡ slots.Sub (named (slot frame x)) → test (sub_state w (named (slot frame x))) ≡ true
        → ((own : Own) (k : TaskFits outside c.rows w u own) (o : OwnSub c.rows w frame own x (named (slot frame x))) → test (completion_of (scope_at w o.scope).completions (named (slot frame x))) ≡ true → StepsTo p outside t c.rows w u own i (steps frame 0 (value_or_zero (completion_of (scope_at w o.scope).completions (named (slot frame x))) ∷ [])))
        → IsCovered outside w u → (own : Own) → TaskFits outside c.rows w u own → StepsTo p outside t c.rows w u own i (steps frame 0 (value_or_zero (sub_state w (named (slot frame x))) ∷ []))
    reads_end i x test mine legal reads owed own k =
        let o = own_sub c.rows w frame own x (named (slot frame x)) k.fits mine in
        let e = state_of c.rows u own k x o in
        subst (λ q. StepsTo p outside t c.rows w u own i (steps frame 0 (value_or_zero q ∷ []))) (sym e) (reads own k o (subst (λ q. test q ≡ true) e legal))

    give_local : (i : Instr) → stays_in_frame i ≡ true → (locals.local (code p frame) i frame ≡ moved p w u frame i) → effect p w u frame i ≡ with_frame w u (moved p w u frame i) → Gives i
    give_local i stays same is2 n flags d =
        let e : effect p w u frame i ≡ with_frame w u (locals.local (code p frame) i frame) = is2 ∙ ap (λ (g : Frame). with_frame w u g) (sym same) in
        subst (λ (v : World). Covers p outside t root v) (sym e)
        (with_next i (locals.local (code p frame) i frame) (subst (λ (v : World). Next w v) e n) (subst (λ (v : World). FlagsHaveCause outside w v) e flags) d
        (λ owed own k. to_local c.rows u own k i stays))

    pub give : (i : Instr) → changes_frame_alone i ≡ true → Gives i
    give (Cancelled x) a n flags d = with_next (Cancelled x) (moved p w u frame (Cancelled x)) n flags d (λ owed own k. to_cancelled c.rows u own k c.timely d.alive owed x d.fine.slots)
    give (Case x success failed) a n flags d =
        let mine = named_sub (Case x success failed) x false d.fine.slots in
        with_next (Case x success failed) (moved p w u frame (Case x success failed)) n flags d
        (λ owed own k.
        let o = own_sub c.rows w frame own x (named (slot frame x)) k.fits mine in
        subst (λ q. StepsTo p outside t c.rows w u own (Case x success failed) (goes frame (case_target q success failed (frame.pc + 1)) 0 [])) (sym (state_of c.rows u own k x o)) (to_case c.rows u own k d.alive x o success failed))
    give (Get x) a n flags d =
        let mine = named_sub (Get x) x false d.fine.slots in
        with_next (Get x) (moved p w u frame (Get x)) n flags d (reads_end (Get x) x has_succeeded mine (readable_success p w frame x mine d.fine.legal) (λ own k o. to_get c.rows u own k d.alive x o))
    give (Except x) a n flags d =
        let mine = named_sub (Except x) x false d.fine.slots in
        with_next (Except x) (moved p w u frame (Except x)) n flags d (reads_end (Except x) x has_failed mine (readable_failure p w frame x mine d.fine.legal) (λ own k o. to_except c.rows u own k d.alive x o))
    give (Tally x kind) a n flags d =
        let mine : slot frame x ≡ slots.Own (named (slot frame x)) = own_slot (slot frame x) (first_no _ _ (first_no _ _ d.fine.slots)) d.fine.own in
        with_next (Tally x kind) (moved p w u frame (Tally x kind)) n flags d (λ owed own k. to_tally c.rows u own k d.alive x kind (named (slot frame x)) mine (joined_scope p w frame x mine d.fine.legal))
    give (Total x) a n flags d =
        let mine : slot frame x ≡ slots.Own (named (slot frame x)) = own_slot (slot frame x) (first_no _ _ (first_no _ _ d.fine.slots)) d.fine.own in
        with_next (Total x) (moved p w u frame (Total x)) n flags d (λ owed own k. to_total c.rows u own k d.alive x (named (slot frame x)) mine (joined_scope p w frame x mine d.fine.legal))
    give (Read x) a n flags d = with_next (Read x) (moved p w u frame (Read x)) n flags d (λ owed own k. to_read c.rows u own k x)
    give (Bound x) a n flags d = with_next (Bound x) (moved p w u frame (Bound x)) n flags d (λ owed own k. to_bound c.rows u own k x)
    give (OrElse x) a n flags d = with_next (OrElse x) (moved p w u frame (OrElse x)) n flags d (λ owed own k. to_or_else c.rows u own k x)
    give (Bind x) a n flags d = with_next (Bind x) (record (steps frame 1 []) { entries = entry.Binding x (operand frame 0) ∷ frame.entries }) n flags d (λ owed own k. to_bind c.rows u own k x)
    give Unbind a n flags d = with_next Unbind (record (steps frame 0 []) { entries = drop 1 frame.entries }) n flags d (λ owed own k. to_unbind c.rows u own k d.fine.structure)
    give Interrupted a n flags d =
        covers_alone c (effect p w u frame Interrupted) u Interrupted (steps frame 0 (truth (task_at w u).flag ∷ [])) n flags
        (turned_flag w u (steps frame 0 (truth (task_at w u).flag ∷ [])) false (born_alive w u d.alive)) (λ s. refl) d
        (λ owed own k. to_interrupted c.rows u own k)
    give (Open x timed joiner) a n flags d = cc
    give (Fork x g q) a n flags d = cc
    give (Join x failed timeout interrupted) a n flags d = cc
    give (Close x) a n flags d = cc
    give Ret a n flags d = cc
    give Fail a n flags d = cc
    give i a n flags d = give_local i refl refl refl n flags d
