-- A `join` has its outcome.
use Rattle.std.proofs.Common.{◌≡◌, ℕ, ◌<◌, inl, List, [], ◌∷◌, ◌⊎◌, inr, Bool, true, false, Option, Some, None, refl, sym, ◌∙◌, ap, subst, length, set, cond}
use Rattle.std.proofs.Common.{not, map, ◌||◌, unwrap_or, arith}
use Rattle.std.specs.Prelude.{slice_get, pos, negsuc, find}
use Rattle.std.specs.List.{list_any}
use Rattle.std.proofs.lemmas.Bool.{and_parts}
use Rattle.laws_runs.proofs.CauseLemmas.{staying_at_join}
use Rattle.sts_code.specs.Facts.{can_fail, is_until}
use Rattle.sts_code.specs.Program.{Program}
use Rattle.sts_code.specs.declared.instr.Instr.{Instr}
use Rattle.sts_code.specs.declared.instr.Instr.TheVariants.{Join}
use Rattle.sts_code.specs.declared.instr.Joiner.{Joiner}
use Rattle.sts_code.specs.declared.instr.Joiner.TheVariants.{AllSucceed, AnySucceeds, AwaitOk, AwaitAll, Until}
use Rattle.sts_model.specs.declared.event.End.{End}
use Rattle.sts_model.specs.declared.event.Fault.{Fault}
use Rattle.sts_model.specs.declared.event.Stand.{Stand}
use Rattle.sts_model.specs.declared.event.Stand.TheVariants.{AtJoin}
use Rattle.sts_model.specs.declared.event.Verdict.{Verdict}
use Rattle.sts_model.specs.declared.event.Verdict.TheVariants as verdict
use Rattle.sts_model.specs.declared.event.Phase.{Phase}
use Rattle.sts_model.specs.declared.event.Phase.TheVariants.{Attempted, Joined, Closing}
use Rattle.sts_model.specs.declared.record.Frame.{Frame}
use Rattle.sts_model.specs.declared.record.Scope.{Scope}
use Rattle.sts_model.specs.declared.record.Slot.{Slot}
use Rattle.sts_model.specs.declared.record.Slot.TheVariants as slots
use Rattle.sts_model.specs.World.{World, task_at, scope_at, with_task}
use Rattle.sts_model.specs.Local.{goes}
use Rattle.sts_model.specs.Living.{lives, any_lives, subtask_count, ends, ends_of, completion_of, sub_state, parent}
use Rattle.sts_model.specs.Joining.{is_success, is_failure, cancels, result_of, verdict_or}
use Rattle.sts_model.specs.Misuse.{slot, can_join, misuse, fault_at, fault_of, IsFine, is_joined}
use Rattle.sts_model.specs.Waiting.{stand_at_instr, stands_at_join, can_go, stand_at}
use Rattle.sts_model.specs.Effect.{answered, named, with_phase, join_verdict, join_scope}
use Rattle.sts_model.specs.Effect as effects
use Rattle.laws_runs.specs.Runs.{Does}
use Rattle.laws_runs.specs.Scopes.{is_asked}
use Rattle.laws_runs.proofs.EffectLemmas.{first_no, dead_in}
use Rattle.laws_runs.proofs.EffectLemmas as effect_lemmas
use Rattle.laws_runs.proofs.EventLemmas.{Next}
use Rattle.laws_runs.proofs.FrameLemmas.{own_slot, at_own-is, Leaves}
use Rattle.laws_runs.proofs.StayLemmas.{ended_is_dead}
use Rattle.laws_runs.proofs.BirthLemmas.{born_alive}
use Rattle.laws_calls.specs.Outside.{Outside}
use Rattle.laws_calls.specs.Tasks.{Among, AllTwo, May, Part, Seen, Own, bare, births_in, Knowledge, Unseen, ByJoiner, Late, Heard, nothing}
use Rattle.laws_calls.specs.Steps.{Row, Table, IsTable, Steps, MayEnd, with_seen, joined, decided, only, ended, after_cancel, after_all, timed_out, after_expiry, timeout_step}
use Rattle.laws_calls.specs.Steps.{attempted, attempted_step, is_unseen, by_one_step, by_count_step, heard_step, none_step, is_any}
use Rattle.laws_calls.specs.Covers.{subs, PartFits, ScopeFits, SeenFits, HeldFits, FrameFits, TaskFits, IsRight, Covers, alive_in, first_failed}
use Rattle.laws_calls.specs.Triggers.{is_trigger, triggers}
use Rattle.laws_calls.specs.Fitting.{MayCount, Answers}
use Rattle.laws_calls.proofs.Early.{first_of, early_place, order_same}
use Rattle.laws_calls.proofs.Possible.{are_possible, counts_most, enough, few_free, unknown, unheard, undecided}
use Rattle.laws_calls.proofs.Lists.{all_map, all_at, all_put, all_right, all_length, all_put_place, Apart, among_get, get_among, any_among, no}
use Rattle.laws_calls.proofs.Turns.{Facts, FlagsHaveCause, refitted, part_same, seen_same, held_same, apart_births, sub_born, sub_listed, listed_inside}
use Rattle.laws_calls.proofs.Moves.{GoesOn, goes_by, covers_turned, turned_subs, OwnScope, own_scope}
use Rattle.laws_calls.proofs.Phases.{Rescoped, rescoped_phase, rescoped_flag, rescoped_frame}
use Rattle.laws_calls.proofs.Told.{who, state_among, First, first_end, find_none, none_passes, one_verdict, any_verdict, neither}
use Rattle.laws_calls.proofs.Alone.{instr_of}
use Rattle.laws_calls.proofs.Counts.{subs_count, states_in}

-- if no row of misuse applies, nothing is misused
no_misuse : (p : Program) (w : World) (t : ℕ) (i : Instr) → IsFine p w t (task_at w t).frame i → fault_of p w t (task_at w t).frame i ≡ None
no_misuse p w t i h = rw (h.operands, h.room, h.loops, h.slots, h.joins, h.births, h.own, h.legal, h.structure, h.bound) refl

not_joined : (a b : Phase) → not (can_join a) ≡ false → (a ≡ b) ⊎ (a ≡ Closing) → is_joined b ≡ false
not_joined a b e (inl same) = subst (λ z. is_joined z ≡ false) same (early a e)
  where
    early : (z : Phase) → not (can_join z) ≡ false → is_joined z ≡ false
    early Joined k = cc
    early _ k = refl
not_joined a b e (inr same) = absurd (no (sym (ap (λ z. not (can_join z)) same) ∙ e))

leaves_answered : (a : Verdict) (f : Frame) (failed : ℕ) → Leaves f (answered a f failed) None
leaves_answered (verdict.Ok None) f failed = record { function = refl; entries = refl; slots = refl }
leaves_answered (verdict.Ok (Some v)) f failed = record { function = refl; entries = refl; slots = refl }
leaves_answered (verdict.Failed c) f failed = record { function = refl; entries = refl; slots = refl }

bare_answered : (a : Verdict) (f : Frame) (failed : ℕ) → bare (answered a f failed) ≡ answered a (bare f) failed
bare_answered (verdict.Ok None) f failed = refl
bare_answered (verdict.Ok (Some v)) f failed = refl
bare_answered (verdict.Failed c) f failed = refl

verdict_frame : (a : Verdict) (w : World) (t s : ℕ) (f : Frame) (failed : ℕ) → join_verdict a w t s f failed ≡ effects.joined w t s (answered a f failed)
verdict_frame a w t s f failed = refl

module _ (p : Program) (outside : Outside) (t : Table) (root : Row) (is : IsTable p outside t root) (w : World) (h : Facts w) (u x : ℕ) (failed timeout : Option ℕ) (to_i : ℕ) (d : Does p w u (Join x failed timeout to_i)) where
  abbrev f : Frame
  f = (task_at w u).frame

  abbrev s : ℕ
  s = named (slot f x)

  abbrev scope : Scope
  scope = scope_at w s

  abbrev after_join : Scope
  after_join = record scope { phase = Joined }

  abbrev after_attempt : Scope
  after_attempt = record scope { phase = Attempted }

  abbrev told : Verdict
  told = result_of scope.joiner (ends scope) (subtask_count w s)

  mine : slot f x ≡ slots.Own s
  mine = own_slot (slot f x) (first_no _ _ (first_no _ _ d.fine.slots)) d.fine.own

  legal : not (can_join scope.phase) ≡ false
  legal = sym (at_own-is w (slot f x) (λ n z. not (can_join z.phase)) mine) ∙ d.fine.legal

  born_s : s < length w.scopes
  born_s = (h.right.sound.own u x s mine).born

  owner : scope.owner ≡ u
  owner = (h.right.sound.own u x s mine).owner

  apart : Apart (births_in f.entries)
  apart = apart_births f.entries (λ r has. (h.entered u r d.alive has).once)

  -- ---- the state of the table goes on

  -- what the table answers, and what it knows of the scope then
  record Outcome (rows : ℕ → Row) (own : Own) (o : OwnScope rows w f own x s) : Type 0 where
    pub answer : Verdict
    pub seen : Seen
    pub same : told ≡ answer
    pub step : Steps p outside (rows u).call own (Join x failed timeout to_i) (joined own o.place seen answer (unwrap_or failed 0))
    pub fits : ScopeFits rows (alive_in w) after_join (subs w s) (record seen { phase = Joined })

  -- the scope has become z, and the task has the frame g
  module _ (z : Scope) (g : Frame) (v : World) (nx : Next w v) (re : Rescoped w v u s g z) where
    seen_rescoped : (rows : ℕ → Row) (y : Seen) → ScopeFits rows (alive_in w) z (subs w s) y → SeenFits rows v s y
    seen_rescoped rows y k =
        subst (λ (a : Scope). ScopeFits rows (alive_in v) a (subs v s) y) (sym re.here)
        (subst (λ us. ScopeFits rows (alive_in v) z us y) (sym (turned_subs re.turned s))
        (refitted rows rows (alive_in w) (alive_in v) z (subs w s) y k
        (all_map (PartFits rows (alive_in w) z) (PartFits rows (alive_in v) z) (subs w s) y.parts
        (λ i part at e. part_same w v h nx rows rows z i part (sub_born w s i at) refl e) k.parts)))

    fits_rescoped : (rows : ℕ → Row) (own : Own) → TaskFits outside rows w u own → (o : OwnScope rows w f own x s) (y : Seen) (next : Frame) → Leaves f g None → bare g ≡ next
        → ScopeFits rows (alive_in w) z (subs w s) y → FrameFits rows v g (record (with_seen own o.place y) { frame = next })
    fits_rescoped rows own k o y next same e new =
        record {
          frame = e;
          held = subst (λ es. AllTwo (HeldFits v (births_in es)) g.slots own.held) (sym same.entries) (subst (λ (xs : List Slot). AllTwo (HeldFits v (births_in f.entries)) xs own.held) (sym same.slots)
              (all_map (HeldFits w (births_in f.entries)) (HeldFits v (births_in f.entries)) f.slots own.held
              (λ a b at e2. held_same w v h nx (births_in f.entries) (λ r i c at2 e3. subst (λ us. slice_get us i ≡ Some c) (sym (turned_subs re.turned r)) e3) a b e2) k.fits.held));
          scopes = subst (λ es. AllTwo (SeenFits rows v) (births_in es) (with_seen own o.place y).scopes) (sym same.entries)
              (all_put_place (SeenFits rows w) (SeenFits rows v) (births_in f.entries) own.scopes o.place s y k.fits.scopes apart o.at (seen_rescoped rows y new)
              (λ r b at other e2. seen_same w v h nx rows rows r b (re.others r other) (turned_subs re.turned r) (λ i less. refl) e2));
        }

  -- the frame after the answer
  abbrev g : Frame
  g = answered told f (unwrap_or failed 0)

  goes_on : (c : Covers p outside t root w) (v : World) → Next w v → Rescoped w v u s g after_join → (own : Own) → TaskFits outside c.rows w u own → (o : OwnScope c.rows w f own x s) → Outcome c.rows own o → GoesOn c.rows v u g own 0
  goes_on c v nx re own k o a =
      let next : Own = joined own o.place a.seen a.answer (unwrap_or failed 0) in
      let frame : bare g ≡ answered a.answer own.frame (unwrap_or failed 0) =
      bare_answered told f (unwrap_or failed 0) ∙ ap (λ (z : Frame). answered told z (unwrap_or failed 0)) k.fits.frame ∙ ap (λ q. answered q own.frame (unwrap_or failed 0)) a.same
      in
      let fits : FrameFits c.rows v g next = fits_rescoped after_join g v nx re c.rows own k o (record a.seen { phase = Joined }) (answered a.answer own.frame (unwrap_or failed 0)) (leaves_answered told f (unwrap_or failed 0)) frame a.fits in
      goes_by c.rows v u g own next 0 0 (omega arith) refl
      (is.closed (c.rows u) own next (Join x failed timeout to_i) (c.listed u) k.there (instr_of p f own (Join x failed timeout to_i) k.fits.frame d.at) a.step)
      (are_possible c.rows v nx.right (births_in g.entries) next.scopes fits.scopes) fits

  -- ---- what the table may answer

  module _ (rows : ℕ → Row) (own : Own) (o : OwnScope rows w f own x s) where
    abbrev parts : List Part
    parts = o.seen.parts

    count : subtask_count w s ≡ length parts
    count = subs_count w h s ∙ all_length (PartFits rows (alive_in w) scope) (subs w s) parts o.fits.parts

    -- a subtask that has ended by this end
    record EndedBy (e : End) : Type 0 where
      pub task : ℕ
      pub i : ℕ
      pub sub : slice_get (subs w s) i ≡ Some task
      pub state : completion_of scope.completions task ≡ Some e
      pub part : Part
      pub may : MayEnd o.seen i part e

    ended_at : (e : End) (c i : ℕ) → completion_of scope.completions c ≡ Some e → slice_get (subs w s) i ≡ Some c → EndedBy e
    ended_at e c i state sub =
        let q : (part : Part) × ((slice_get parts i ≡ Some part) × PartFits rows (alive_in w) scope c part) = all_at (PartFits rows (alive_in w) scope) (subs w s) parts i c o.fits.parts sub in
        record { task = c; i = i; sub = sub; state = state; part = q.0; may = record { known = q.1.0; way = subst (λ y. May q.0 y) state q.1.1.may } }

    ended_by : (e : End) → Among (ends scope) e → EndedBy e
    ended_by e at =
        let c : (c : ℕ) × (completion_of scope.completions c ≡ Some e) = who scope.completions (λ i. (h.right.told s).once i) e at in
        let i : (i : ℕ) × (slice_get (subs w s) i ≡ Some c.0) = among_get (subs w s) c.0 (sub_listed w s c.0 ((h.right.told s).subtask c.0 e c.1)) in
        ended_at e c.0 i.0 c.1 i.1

    unjoined : is_joined o.seen.phase ≡ false
    unjoined = not_joined scope.phase o.seen.phase legal o.fits.phase

    -- the part of the subtask that failed first
    failed_by : (e : End) → find is_failure (ends scope) ≡ Some e → (b : EndedBy e) × (b.part.is_early ≡ true)
    unfolding ended_at
    failed_by e failed =
        let d : (d : ℕ) × ((first_failed scope.completions ≡ Some d) × (completion_of scope.completions d ≡ Some e)) = first_of scope.completions (λ i. (h.right.told s).once i) e failed in
        let at = early_place w h.right s (PartFits rows (alive_in w) scope) parts o.fits.parts o.seen.has_failure (o.fits.order unjoined) d.0 d.1.0 in
        let b : EndedBy e = ended_at e d.0 at.i d.1.1 at.sub in
        (b, at.is_early b.part b.may.known)

    -- what is known of the parts with another phase
    parts_joined : (z : Seen) → AllTwo (PartFits rows (alive_in w) scope) (subs w s) z.parts → AllTwo (PartFits rows (alive_in w) after_join) (subs w s) z.parts
    parts_joined z k = all_map (PartFits rows (alive_in w) scope) (PartFits rows (alive_in w) after_join) (subs w s) z.parts (λ i part at e. record { may = e.may; whole = e.whole }) k

    asked_joined : (z : Seen) → z.asked ≡ o.seen.asked → (o.seen.asked ≡ nothing) ⊎ ((is_joined o.seen.phase ≡ true) × Answers o.seen.asked (states_in w s)) → (z.asked ≡ nothing) ⊎ ((is_joined Joined ≡ true) × Answers z.asked (states_in w s))
    asked_joined z same (inl e) = inl (same ∙ e)
    asked_joined z same (inr k) = inr (refl, subst (λ a. Answers a (states_in w s)) (sym same) k.1)

    -- with other knowledge and other parts
    fits_with : (z : Seen) → z.joiner ≡ o.seen.joiner → z.timed ≡ o.seen.timed → z.environment ≡ o.seen.environment → z.asked ≡ o.seen.asked → IsRight z.knowledge after_join → (z.knowledge ≡ ByJoiner → scope.expired ≡ false) → MayCount z.knowledge Joined z.joiner (triggers z.joiner (ends scope)) → AllTwo (PartFits rows (alive_in w) scope) (subs w s) z.parts → ScopeFits rows (alive_in w) after_join (subs w s) (record z { phase = Joined })
    fits_with z joiner timed environment asked known timely counts k =
        record {
          joiner = joiner ∙ o.fits.joiner;
          timed = timed ∙ o.fits.timed;
          environment = environment ∙ o.fits.environment;
          phase = inl refl;
          known = known;
          on_time = λ is joined. timely is;
          counts = counts;
          asked = asked_joined z asked o.fits.asked;
          order = λ e. cc;
          parts = parts_joined z k;
        }

    -- one part has ended by the end that decided
    parts_decided : (z : Seen) (e : End) (b : EndedBy e) → AllTwo (PartFits rows (alive_in w) scope) (subs w s) z.parts → AllTwo (PartFits rows (alive_in w) scope) (subs w s) (set z.parts b.i (only e b.part))
    parts_decided z e b k =
        all_put (PartFits rows (alive_in w) scope) (subs w s) z.parts b.i b.task (only e b.part) k b.sub
        (record {
          may = subst (λ y. May (only e b.part) y) (sym b.state) (inl refl);
          whole = λ alive free e2 way. (let dead = ended_is_dead (task_at w b.task) e ((h.right.told s).ended b.task e b.state) in absurd (no (sym alive ∙ dead)));
        })

    -- ---- a scope that its joiner has cancelled

    gone_counts : is_asked scope ≡ true → MayCount ByJoiner Joined o.seen.joiner (triggers o.seen.joiner (ends scope))
    gone_counts asked = (
      enough o.seen.joiner (ends scope) (ap (λ k. cancels k (ends scope)) o.fits.joiner ∙ asked),
      counts_most o.seen.knowledge o.seen.phase o.seen.joiner (triggers o.seen.joiner (ends scope)) o.fits.counts,
    )

    by_one : scope.cancelled ≡ true → scope.expired ≡ false → is_asked scope ≡ true → (test : End → Bool) (j : Joiner) → scope.joiner ≡ j → can_fail j ≡ true → ((e : End) → test e ≡ true → is_trigger j e ≡ true)
        → (b : First test (ends scope)) → result_of j (ends scope) (subtask_count w s) ≡ result_of j (b.end ∷ []) (length parts) → Outcome rows own o
    by_one gone on_time asked test j is_j one triggers b same =
        let e : End = b.end in
        let c : EndedBy e = ended_by e b.there in
        let seen_j : o.seen.joiner ≡ j = o.fits.joiner ∙ is_j in
        record {
          answer = result_of o.seen.joiner (e ∷ []) (length parts);
          seen = decided (after_cancel o.seen) c.i e c.part;
          same = ap (λ k. result_of k (ends scope) (subtask_count w s)) is_j ∙ same ∙ ap (λ k. result_of k (e ∷ []) (length parts)) (sym seen_j);
          step = by_one_step o.place o.seen c.i c.part e o.owns (undecided o.seen.knowledge scope o.fits.known gone on_time) (subst (λ k. can_fail k ≡ true) (sym seen_j) one) c.may
              (subst (λ k. is_trigger k e ≡ true) (sym seen_j) (triggers e b.passes));
          fits = fits_with (decided (after_cancel o.seen) c.i e c.part) refl refl refl refl gone (λ is. on_time) (gone_counts asked) (parts_decided o.seen e c o.fits.parts);
        }

    by_count : scope.cancelled ≡ true → scope.expired ≡ false → is_asked scope ≡ true → (j : Joiner) → scope.joiner ≡ j → is_until j ≡ true → ((n : ℕ) (es : List End) → result_of j es n ≡ result_of j [] n) → Outcome rows own o
    by_count gone on_time asked j is_j until none =
        let seen_j : o.seen.joiner ≡ j = o.fits.joiner ∙ is_j in
        record {
          answer = result_of o.seen.joiner [] (length parts);
          seen = after_cancel o.seen;
          same = ap (λ k. result_of k (ends scope) (subtask_count w s)) is_j ∙ none (subtask_count w s) (ends scope) ∙ ap (λ n. result_of j [] n) count ∙ ap (λ k. result_of k [] (length parts)) (sym seen_j);
          step = by_count_step o.place o.seen o.owns (undecided o.seen.knowledge scope o.fits.known gone on_time) (subst (λ k. is_until k ≡ true) (sym seen_j) until);
          fits = fits_with (after_cancel o.seen) refl refl refl refl gone (λ is. on_time) (gone_counts asked) o.fits.parts;
        }

    cancelled_answers : scope.cancelled ≡ true → scope.expired ≡ false → is_asked scope ≡ true → (j : Joiner) → scope.joiner ≡ j → cancels j (ends scope) ≡ true → Outcome rows own o
    cancelled_answers gone on_time told_asked AllSucceed is_j asked =
        let b = first_end is_failure (ends scope) asked in
        by_one gone on_time told_asked is_failure AllSucceed is_j refl (λ e passes. passes) b (one_verdict is_failure (ends scope) b (verdict.Ok (Some (pos (subtask_count w s)))) (verdict.Ok (Some (pos (length parts)))))
    cancelled_answers gone on_time told_asked AwaitOk is_j asked =
        let b = first_end is_failure (ends scope) asked in
        by_one gone on_time told_asked is_failure AwaitOk is_j refl (λ e passes. passes) b (one_verdict is_failure (ends scope) b (verdict.Ok None) (verdict.Ok None))
    cancelled_answers gone on_time told_asked AnySucceeds is_j asked =
        let b = first_end is_success (ends scope) asked in
        by_one gone on_time told_asked is_success AnySucceeds is_j refl (λ e passes. passes) b
        (one_verdict is_success (ends scope) b (verdict_or (find is_failure (ends scope)) (verdict.Failed (negsuc 0))) (verdict_or (find is_failure (b.end ∷ [])) (verdict.Failed (negsuc 0))))
    cancelled_answers gone on_time told_asked AwaitAll is_j asked = cc
    cancelled_answers gone on_time told_asked (Until q) is_j asked = by_count gone on_time told_asked (Until q) is_j refl (λ n es. refl)

    -- ---- all subtasks have ended

    module _ (free : scope.cancelled ≡ false) (none : any_lives w s ≡ false) where
      -- each of them ended heard
      heard_part : (i : ℕ) (part : Part) → Among (subs w s) i → PartFits rows (alive_in w) scope i part → PartFits rows (alive_in w) scope i (ended part)
      heard_part i part at e = record { may = by (completion_of scope.completions i) refl e.may; whole = λ alive. absurd (no (sym alive ∙ dead)) }
        where
          inside : (task_at w i).scope ≡ Some s
          inside = listed_inside w s i at

          dead : lives (task_at w i) ≡ false
          dead = dead_in w s i none inside

          by : (q : Option End) → completion_of scope.completions i ≡ q → May part q → May (ended part) q
          by None is2 m =
              let out : sub_state w i ≡ None = ap (λ k. completion_of (parent w k).completions i) inside ∙ is2 in
              absurd (no (sym (h.left_out s i inside dead out) ∙ free))
          by (Some end) is2 m = m

      heard_parts : AllTwo (PartFits rows (alive_in w) scope) (subs w s) (map ended parts)
      heard_parts = all_right (PartFits rows (alive_in w) scope) (PartFits rows (alive_in w) scope) ended (subs w s) parts heard_part o.fits.parts

      -- the joiner asks for no cancel
      unasked : (test : End → Bool) → (list_any test (ends scope) ≡ true → is_asked scope ≡ true) → list_any test (ends scope) ≡ false
      unasked test asks = by (list_any test (ends scope)) refl
        where
          by : (b : Bool) → list_any test (ends scope) ≡ b → b ≡ false
          by false e = refl
          by true e =
              let empty = (h.caused s born_s).asked free (asks e) in
              let never : list_any test (ends scope) ≡ false = ap (λ cs. list_any test (ends_of cs)) empty in
              absurd (no (sym e ∙ never))

      heard_counts : MayCount Heard Joined o.seen.joiner (triggers o.seen.joiner (ends scope))
      heard_counts = few_free w h s born_s free o.seen.joiner o.fits.joiner

      by_heard : (j : Joiner) → scope.joiner ≡ j → (is_any j ≡ true → parts ≡ []) → result_of j (ends scope) (subtask_count w s) ≡ result_of j [] (subtask_count w s) → Outcome rows own o
      by_heard j is_j any same =
          let seen_j : o.seen.joiner ≡ j = o.fits.joiner ∙ is_j in
          record {
            answer = result_of o.seen.joiner [] (length parts);
            seen = after_all o.seen;
            same = ap (λ k. result_of k (ends scope) (subtask_count w s)) is_j ∙ same ∙ ap (λ n. result_of j [] n) count ∙ ap (λ k. result_of k [] (length parts)) (sym seen_j);
            step = heard_step o.place o.seen o.owns (unknown o.seen.knowledge scope o.fits.known free) (λ e. any (ap is_any (sym seen_j) ∙ e));
            fits = fits_with (after_all o.seen) refl refl refl refl (free, refl) (λ is. cc) heard_counts heard_parts;
          }

      -- a scope without subtasks
      no_parts : list_any is_success (ends scope) ≡ false → list_any is_failure (ends scope) ≡ false → parts ≡ []
      no_parts no_success no_failure = by (subs w s) parts (λ i at. at) heard_parts_ended
        where
          heard_parts_ended : AllTwo (PartFits rows (alive_in w) scope) (subs w s) parts
          heard_parts_ended = o.fits.parts

          never : (i : ℕ) → Among (subs w s) i → (q : Option End) → completion_of scope.completions i ≡ q → ⊥
          never i at None is2 =
              let inside : (task_at w i).scope ≡ Some s = listed_inside w s i at in
              let out : sub_state w i ≡ None = ap (λ k. completion_of (parent w k).completions i) inside ∙ is2 in
              no (sym (h.left_out s i inside (dead_in w s i none inside) out) ∙ free)
          never i at (Some e) is2 =
              let there = state_among scope.completions i e is2 in
              neither e (none_passes is_success (ends scope) e no_success there) (none_passes is_failure (ends scope) e no_failure there)

          by : (us : List ℕ) (ps : List Part) → ((i : ℕ) → Among us i → Among (subs w s) i) → AllTwo (PartFits rows (alive_in w) scope) us ps → ps ≡ []
          by [] [] among k = refl
          by [] (part ∷ ps) among k = absurd k
          by (i ∷ us) ps among k = absurd (never i (among i (inl refl)) (completion_of scope.completions i) refl)

      by_none : scope.joiner ≡ AnySucceeds → list_any is_success (ends scope) ≡ false → First is_failure (ends scope) → Outcome rows own o
      by_none is_j no_success b =
          let e : End = b.end in
          let r : (b : EndedBy e) × (b.part.is_early ≡ true) = failed_by e b.first in
          let c : EndedBy e = r.0 in
          let seen_j : o.seen.joiner ≡ AnySucceeds = o.fits.joiner ∙ is_j in
          record {
            answer = result_of o.seen.joiner (e ∷ []) (length parts);
            seen = decided (after_all o.seen) c.i e c.part;
            same =
                ap (λ k. result_of k (ends scope) (subtask_count w s)) is_j
                ∙ ap (λ q. verdict_or q (verdict_or (find is_failure (ends scope)) (verdict.Failed (negsuc 0)))) (find_none is_success (ends scope) no_success)
                ∙ ap (λ q. verdict_or q (verdict.Failed (negsuc 0))) b.first
                ∙ any_verdict e b.passes
                ∙ ap (λ k. result_of k (e ∷ []) (length parts)) (sym seen_j);
            step = none_step o.place o.seen c.i c.part e o.owns (unknown o.seen.knowledge scope o.fits.known free) (ap is_any seen_j) c.may b.passes r.1;
            fits = fits_with (decided (after_all o.seen) c.i e c.part) refl refl refl refl (free, refl) (λ is. cc) heard_counts (parts_decided (after_all o.seen) e c heard_parts);
          }

      any_answers : scope.joiner ≡ AnySucceeds → list_any is_success (ends scope) ≡ false → (b : Bool) → list_any is_failure (ends scope) ≡ b → Outcome rows own o
      any_answers is_j no_success true e = by_none is_j no_success (first_end is_failure (ends scope) e)
      any_answers is_j no_success false e =
          by_heard AnySucceeds is_j (λ any. no_parts no_success e)
          (ap (λ q. verdict_or q (verdict_or (find is_failure (ends scope)) (verdict.Failed (negsuc 0)))) (find_none is_success (ends scope) no_success)
          ∙ ap (λ q. verdict_or q (verdict.Failed (negsuc 0))) (find_none is_failure (ends scope) e))

      asks_if : (j : Joiner) → scope.joiner ≡ j → cancels j (ends scope) ≡ true → is_asked scope ≡ true
      asks_if j is_j e = ap (λ k. cancels k (ends scope)) is_j ∙ e

      heard_answers : (j : Joiner) → scope.joiner ≡ j → Outcome rows own o
      heard_answers AllSucceed is_j =
          let quiet = unasked is_failure (asks_if AllSucceed is_j) in
          by_heard AllSucceed is_j (λ e. absurd (no (sym e))) (ap (λ q. verdict_or q (verdict.Ok (Some (pos (subtask_count w s))))) (find_none is_failure (ends scope) quiet))
      heard_answers AwaitOk is_j =
          let quiet = unasked is_failure (asks_if AwaitOk is_j) in
          by_heard AwaitOk is_j (λ e. absurd (no (sym e))) (ap (λ q. verdict_or q (verdict.Ok None)) (find_none is_failure (ends scope) quiet))
      heard_answers AnySucceeds is_j = any_answers is_j (unasked is_success (asks_if AnySucceeds is_j)) (list_any is_failure (ends scope)) refl
      heard_answers AwaitAll is_j = by_heard AwaitAll is_j (λ e. absurd (no (sym e))) refl
      heard_answers (Until q) is_j = by_heard (Until q) is_j (λ e. absurd (no (sym e))) refl

    -- ---- interrupted

    -- nothing is known of a cancel
    unseen : (q : Knowledge) → IsRight q scope → scope.cancelled ≡ false → q ≡ Unseen
    unseen Unseen r free = refl
    unseen ByJoiner r free = let known : scope.cancelled ≡ true = r in absurd (no (sym known ∙ free))
    unseen Late r free = let known : scope.cancelled ≡ true = r.0 in absurd (no (sym known ∙ free))
    unseen Heard r free = let known : is_joined scope.phase ≡ true = r.1 in absurd (no (sym known ∙ not_joined scope.phase scope.phase legal (inl refl)))

    unseen_now : scope.cancelled ≡ false → o.seen.knowledge ≡ Unseen
    unseen_now free = unseen o.seen.knowledge o.fits.known free

    -- a subtask that lives may be unavailable
    is_open_now : (c : ℕ) (part : Part) → lives (task_at w c) ≡ true → May part (completion_of scope.completions c) → part.is_open ≡ true
    is_open_now c part alive = by (completion_of scope.completions c) refl
      where
        by : (y : Option End) → completion_of scope.completions c ≡ y → May part y → part.is_open ≡ true
        by None e m = m
        by (Some end) e m = absurd (no (sym alive ∙ ended_is_dead (task_at w c) end ((h.right.told s).ended c end e)))

    some_open : any_lives w s ≡ true → list_any (λ (part : Part). part.is_open) parts ≡ true
    some_open some =
        let c : (c : ℕ) × ((task_at w c).scope ≡ Some s) × (lives (task_at w c) ≡ true) = effect_lemmas.alive_in w s some in
        let i : (i : ℕ) × (slice_get (subs w s) i ≡ Some c.0) = among_get (subs w s) c.0 (sub_listed w s c.0 c.1) in
        let q : (part : Part) × ((slice_get parts i.0 ≡ Some part) × PartFits rows (alive_in w) scope c.0 part) = all_at (PartFits rows (alive_in w) scope) (subs w s) parts i.0 c.0 o.fits.parts i.1 in
        any_among (λ (part : Part). part.is_open) parts q.0 (get_among parts i.0 q.0 q.1.0) (is_open_now c.0 q.0 c.2 q.1.1.may)

    asked_attempted : (o.seen.asked ≡ nothing) ⊎ ((is_joined o.seen.phase ≡ true) × Answers o.seen.asked (states_in w s)) → (o.seen.asked ≡ nothing) ⊎ ((is_joined Attempted ≡ true) × Answers o.seen.asked (states_in w s))
    asked_attempted (inl e) = inl e
    asked_attempted (inr k) = absurd (no (sym k.0 ∙ unjoined))

    seen_attempted : scope.cancelled ≡ false → ScopeFits rows (alive_in w) after_attempt (subs w s) (record o.seen { phase = Attempted })
    seen_attempted free =
        record {
          joiner = o.fits.joiner;
          timed = o.fits.timed;
          environment = o.fits.environment;
          phase = inl refl;
          known = subst (λ q. IsRight q after_attempt) (sym (unseen_now free)) tt;
          on_time = λ is joined. cc;
          counts = subst (λ q. MayCount q Attempted o.seen.joiner (triggers o.seen.joiner (ends scope))) (sym (unseen_now free)) (counts_most o.seen.knowledge o.seen.phase o.seen.joiner _ o.fits.counts);
          asked = asked_attempted o.fits.asked;
          order = λ e. order_same o.seen.has_failure scope after_attempt (subs w s) parts refl (o.fits.order unjoined);
          parts = all_map (PartFits rows (alive_in w) scope) (PartFits rows (alive_in w) after_attempt) (subs w s) parts (λ i part at e. record { may = e.may; whole = e.whole }) o.fits.parts;
        }

    -- ---- either

    answers : scope.expired ≡ false → (scope.cancelled || not (any_lives w s)) ≡ true → Outcome rows own o
    answers timely done = by scope.cancelled refl (any_lives w s) refl done
      where
        by : (a : Bool) → scope.cancelled ≡ a → (b : Bool) → any_lives w s ≡ b → (a || not b) ≡ true → Outcome rows own o
        by true gone b e k = let asked = (h.caused s born_s).cause gone timely (staying_at_join scope.phase legal) in cancelled_answers gone timely asked scope.joiner refl asked
        by false free false none k = heard_answers free none scope.joiner refl
        by false free true some k = cc

  -- ---- the step

  -- a `join` that is taken has an outcome, or the flag is set
  can_join_now : (scope.expired || scope.cancelled || not (any_lives w s) || (task_at w u).flag) ≡ true
  can_join_now =
      let go : can_go w (task_at w u) (stand_at p w u) ≡ true = (and_parts (lives (task_at w u)) _ d.can).1 in
      let m : misuse p w u ≡ None = ap (fault_at p w u f) d.at ∙ no_misuse p w u (Join x failed timeout to_i) d.fine in
      let stand : stand_at p w u ≡ AtJoin s =
      ap (stand_at_instr p w u) d.at ∙ ap (λ (q : Option Fault). stands_at_join q (slot f x)) m ∙ ap (stands_at_join None) mine
      in
      subst (λ (q : Stand). can_go w (task_at w u) q ≡ true) stand go

  abbrev attempt : World
  attempt = with_task (with_phase w s Attempted) u (record (task_at w u) { frame = goes f to_i 0 []; flag = false })

  flagged : (a b c q : Bool) → (a || b || not c || q) ≡ true → a ≡ false → (b || not c) ≡ false → q ≡ true
  flagged true b c q e k1 k2 = cc
  flagged false true c q e k1 k2 = cc
  flagged false false false q e k1 k2 = cc
  flagged false false true q e k1 k2 = e

  waiting : (b c : Bool) → (b || not c) ≡ false → (b ≡ false) × (c ≡ true)
  waiting true c e = cc
  waiting false false e = cc
  waiting false true e = (refl, refl)

  covers_attempted : (c : Covers p outside t root w) → scope.expired ≡ false → Next w attempt → FlagsHaveCause outside w attempt → (scope.cancelled || not (any_lives w s)) ≡ false → Covers p outside t root attempt
  covers_attempted c on_time nx flags waits =
      let to : Frame = goes f to_i 0 [] in
      let re : Rescoped w attempt u s to after_attempt = rescoped_flag w (with_phase w s Attempted) u s f to after_attempt false (born_alive w u d.alive) (rescoped_phase w u s born_s owner Attempted) in
      let set : (task_at w u).flag ≡ true = flagged scope.expired scope.cancelled (any_lives w s) (task_at w u).flag can_join_now on_time waits in
      let free = waiting scope.cancelled (any_lives w s) waits in
      covers_turned p outside t root w attempt h nx flags c u to 0 0 re.turned (λ wide. refl) d.alive
      (λ owed own k.
      let o = own_scope c.rows w f own x s k.fits mine in
      let next : Own = attempted own o.place o.seen to_i in
      let fits : FrameFits c.rows attempt to next =
      fits_rescoped after_attempt to attempt nx re c.rows own k o (record o.seen { phase = Attempted }) (goes own.frame to_i 0 []) (record { function = refl; entries = refl; slots = refl })
      (ap (λ (z : Frame). goes z to_i 0 []) k.fits.frame) (seen_attempted c.rows own o free.0)
      in
      goes_by c.rows attempt u to own next 0 0 (omega arith) refl
      (is.closed (c.rows u) own next (Join x failed timeout to_i) (c.listed u) k.there (instr_of p f own (Join x failed timeout to_i) k.fits.frame d.at)
      (attempted_step o.place o.seen (k.flag set) o.owns (ap is_unseen (unseen_now c.rows own o free.0)) (some_open c.rows own o free.1)))
      (are_possible c.rows attempt nx.right (births_in f.entries) next.scopes fits.scopes) fits)

  abbrev outcome : World
  outcome = effects.joined w u s g

  covers_outcome : (c : Covers p outside t root w) → scope.expired ≡ false → Next w outcome → FlagsHaveCause outside w outcome → (scope.cancelled || not (any_lives w s)) ≡ true → Covers p outside t root outcome
  covers_outcome c on_time nx flags done =
      let re : Rescoped w outcome u s g after_join = rescoped_frame w (with_phase w s Joined) u s f g after_join (born_alive w u d.alive) (rescoped_phase w u s born_s owner Joined) in
      covers_turned p outside t root w outcome h nx flags c u g 0 0 re.turned (λ wide. refl) d.alive
      (λ owed own k.
      let o = own_scope c.rows w f own x s k.fits mine in
      goes_on c outcome nx re own k o (answers c.rows own o on_time done))

  abbrev verdict_world : World
  verdict_world = join_verdict told w u s f (unwrap_or failed 0)

  covers_verdict : (c : Covers p outside t root w) → scope.expired ≡ false → Next w verdict_world → FlagsHaveCause outside w verdict_world → (scope.cancelled || not (any_lives w s)) ≡ true → Covers p outside t root verdict_world
  covers_verdict c on_time nx flags done =
      let same : verdict_world ≡ outcome = verdict_frame told w u s f (unwrap_or failed 0) in
      subst (λ (v : World). Covers p outside t root v) (sym same) (covers_outcome c on_time (subst (λ (v : World). Next w v) same nx) (subst (λ (v : World). FlagsHaveCause outside w v) same flags) done)

  abbrev late : World
  late = effects.joined w u s (goes f (unwrap_or timeout 0) 0 [])

  covers_late : (c : Covers p outside t root w) → scope.expired ≡ true → Next w late → FlagsHaveCause outside w late → Covers p outside t root late
  covers_late c expired nx flags =
      let to_pc : ℕ = unwrap_or timeout 0 in
      let re : Rescoped w late u s (goes f to_pc 0 []) after_join = rescoped_frame w (with_phase w s Joined) u s f (goes f to_pc 0 []) after_join (born_alive w u d.alive) (rescoped_phase w u s born_s owner Joined) in
      let gone : scope.cancelled ≡ true = (h.caused s born_s).expired expired in
      covers_turned p outside t root w late h nx flags c u (goes f to_pc 0 []) 0 0 re.turned (λ wide. refl) d.alive
      (λ owed own k.
      let o = own_scope c.rows w f own x s k.fits mine in
      let next : Own = timed_out own o.place o.seen to_pc in
      let seen_late : ScopeFits c.rows (alive_in w) after_join (subs w s) (record (after_expiry o.seen) { phase = Joined }) =
      fits_with c.rows own o (after_expiry o.seen) refl refl refl refl (gone, expired) (λ is. cc) (counts_most o.seen.knowledge o.seen.phase o.seen.joiner _ o.fits.counts) o.fits.parts
      in
      let fits : FrameFits c.rows late (goes f to_pc 0 []) next =
      fits_rescoped after_join (goes f to_pc 0 []) late nx re c.rows own k o (record (after_expiry o.seen) { phase = Joined }) (goes own.frame to_pc 0 []) (record { function = refl; entries = refl; slots = refl })
      (ap (λ (z : Frame). goes z to_pc 0 []) k.fits.frame) seen_late
      in
      goes_by c.rows late u (goes f to_pc 0 []) own next 0 0 (omega arith) refl
      (is.closed (c.rows u) own next (Join x failed timeout to_i) (c.listed u) k.there (instr_of p f own (Join x failed timeout to_i) k.fits.frame d.at)
      (timeout_step o.place o.seen o.owns (unheard o.seen.knowledge scope o.fits.known gone) (o.fits.timed ∙ c.timely s expired)))
      (are_possible c.rows late nx.right (births_in f.entries) next.scopes fits.scopes) fits)

  abbrev after : World
  after = join_scope w u f s (unwrap_or failed 0) (unwrap_or timeout 0) to_i

  pub join_covered : (c : Covers p outside t root w) → Next w after → FlagsHaveCause outside w after → Covers p outside t root after
  unfolding join_scope
  join_covered c nx flags = by scope.expired refl (scope.cancelled || not (any_lives w s)) refl nx flags
    where
      by : (a : Bool) → scope.expired ≡ a → (b : Bool) → (scope.cancelled || not (any_lives w s)) ≡ b → Next w (cond a late (cond b verdict_world attempt)) → FlagsHaveCause outside w (cond a late (cond b verdict_world attempt)) → Covers p outside t root (cond a late (cond b verdict_world attempt))
      by true e b e2 n2 flags2 = covers_late c e n2 flags2
      by false e true e2 n2 flags2 = covers_verdict c e n2 flags2 e2
      by false e false e2 n2 flags2 = covers_attempted c e n2 flags2 e2
