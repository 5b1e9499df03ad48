-- An event that doesn't concern a task leaves all that it depends on unchanged.
use Rattle.std.proofs.Common.{List, ◌≡◌, ℕ, [], ◌∷◌, ◌++◌, Bool, true, false, Option, Some, None, refl, sym, ◌∙◌, ap, subst, length, drop, cond, ◌&&◌, ◌||◌}
use Rattle.std.proofs.Common.{not, unwrap_or, arith, get_or-set_other}
use Rattle.std.proofs.lemmas.Bool.Decides.{nat_tests}
use Rattle.std.specs.Prelude.{◌==◌}
use Rattle.sts_code.specs.Program.{Program, routine}
use Rattle.sts_code.specs.declared.instr.Instr.{Instr}
use Rattle.sts_code.specs.declared.instr.Instr.TheVariants.{Open, Fork, Join, Close, Interrupted, Ret, Fail}
use Rattle.sts_code.specs.declared.instr.Joiner.{Joiner}
use Rattle.sts_model.specs.declared.event.Event.{Event}
use Rattle.sts_model.specs.declared.event.Event.TheVariants as event
use Rattle.sts_model.specs.declared.event.End.{End}
use Rattle.sts_model.specs.declared.event.End.TheVariants.{Success, Failed}
use Rattle.sts_model.specs.declared.event.Fault.{Fault}
use Rattle.sts_model.specs.declared.event.Phase.{Phase}
use Rattle.sts_model.specs.declared.event.Phase.TheVariants.{Attempted, Joined, Closing, Closed}
use Rattle.sts_model.specs.declared.event.Verdict.{Verdict}
use Rattle.sts_model.specs.declared.event.Verdict.TheVariants as verdict
use Rattle.sts_model.specs.declared.record.Slot.TheVariants as slots
use Rattle.sts_model.specs.declared.record.Frame.{Frame}
use Rattle.sts_model.specs.declared.record.Task.{Task}
use Rattle.sts_model.specs.declared.record.Scope.{Scope}
use Rattle.sts_model.specs.World.{World, Running, task_at, scope_at, no_task, no_scope, instr_at, with_task, with_scope}
use Rattle.sts_model.specs.Local.{operand, goes, steps}
use Rattle.sts_model.specs.Joining.{cancels, result_of}
use Rattle.sts_model.specs.Living.{lives, is_in, is_living_subtask, any_lives, is_closed, ends, subtask_count}
use Rattle.sts_model.specs.Standing.{stands_in}
use Rattle.sts_model.specs.Cancelling.{cancel}
use Rattle.sts_model.specs.Misuse.{slot, misuse, IsFine}
use Rattle.sts_model.proofs.FineLemmas.{fine}
use Rattle.sts_model.specs.Waiting.{can_step}
use Rattle.sts_model.specs.Effect.{effect, named, with_phase, open_scope, fork_task, forked, subtask_of, join_verdict, join_scope, cleared, close_scope, told}
use Rattle.sts_model.specs.Effect.{decide, tell, ended, end_task}
use Rattle.sts_model.specs.Outside.{can_expire}
use Rattle.sts_model.specs.Run.{apply, stepped, perform}
use Rattle.sts_model.specs.Live.{Live, LiveTask, LiveScope, live}
use Rattle.laws_runs.specs.Runs.{In, NeverFaults}
use Rattle.laws_runs.proofs.ListLemmas.{at_set}
use Rattle.std.proofs.lemmas.Bool.{or_parts, and_parts, eqb-false}
use Rattle.laws_runs.proofs.KeptLemmas.{kept-cancel}
use Rattle.laws_runs.proofs.FrameLemmas.{own_slot}
use Rattle.laws_runs.proofs.EffectLemmas.{first_no}
use Rattle.laws_runs.proofs.BirthLemmas.{more_tasks, more_scopes, new_scope, opener}
use Rattle.laws_runs.proofs.RunLemmas.{after-append}
use Rattle.laws_live.specs.Reading.{live_task_at, live_scope_at, alive_at}
use Rattle.laws_live.specs.Waiting.{live_can_step}
use Rattle.laws_live.proofs.ViewLemmas.{scope_is, task_is, tasks_born}
use Rattle.laws_runs.proofs.SoundLemmas.{stands_alive}
use Rattle.laws_live.proofs.EndLemmas.{open_some}
use Rattle.laws_live.proofs.EffectLemmas.{Facts, of_is}
use Rattle.laws_live.proofs.OutsideLemmas.{open_timely}
use Rattle.laws_live.proofs.WaitingLemmas.{frame_is}
use Rattle.laws_live.proofs.LawLemmas.{facts-after, turns_are_seen}
use Rattle.laws_live.specs.Run.{live_apply}
use Rattle.laws_live.specs.Seen.{StandsAt}
use Rattle.laws_live.specs.Waking.{is_around, touches, concerns, OthersStay}
use Rattle.laws_live.proofs.Looks.{Looks, looks-refl, looks-trans, looks-cond, looks-task, looks-scope, looks-cancel, looks-more_tasks, looks-more_scopes}
use Rattle.laws_live.proofs.Looks.{can-same}

-- ---- who is concerned

-- u is in no open scope s
outside_is : (w : World) (s u : ℕ) → is_closed (scope_at w s).phase ≡ false → is_in s (live_task_at (live w) u).scope ≡ false → is_in s (task_at w u).scope ≡ false
outside_is w s u still e = sym (of_is w s (slots.Sub u) still) ∙ e

-- u is neither the owner of an open scope nor in it
record IsApart (w : World) (s u : ℕ) : Type 0 where
  pub owner : (scope_at w s).owner ≡ u → ⊥
  pub outside : is_in s (task_at w u).scope ≡ false

apart_is : (w : World) (s u : ℕ) → is_closed (scope_at w s).phase ≡ false → is_around (live w) (Some s) u ≡ false → IsApart w s u
apart_is w s u still e =
    let h = or_parts ((live_scope_at (live w) s).owner == u) (is_in s (live_task_at (live w) u).scope) e in
    let is : (live_scope_at (live w) s).owner ≡ (scope_at w s).owner = ap (λ (scope : LiveScope). scope.owner) (scope_is w s still) in
    record { owner = λ same. eqb-false (live_scope_at (live w) s).owner u h.0 (is ∙ same); outside = outside_is w s u still h.1 }

-- ---- effects

pub looks-frame : (w : World) (t u : ℕ) (f : Frame) (flag : Bool) → (u ≡ t → ⊥) → Looks w (with_task w t (record (task_at w t) { frame = f; flag = flag })) u
looks-frame w t u f flag other = looks-task w t u (record (task_at w t) { frame = f; flag = flag }) other (λ s born mine. refl)

-- a phase of a scope of t, and a frame of t
pub looks-phase : (w : World) (t u s : ℕ) (phase : Phase) (f : Frame) (flag : Bool) → (u ≡ t → ⊥) → (scope_at w s).owner ≡ t → Looks w (with_task (with_phase w s phase) t (record (task_at w t) { frame = f; flag = flag })) u
looks-phase w t u s phase f flag other mine =
    let v : World = with_phase w s phase in
    looks-trans w v _ u
    (looks-scope w s u (record (scope_at w s) { phase = phase }) (λ e. other (sym e ∙ mine)))
    (looks-frame v t u f flag other)

looks-verdict : (q : Verdict) (w : World) (t u s : ℕ) (f : Frame) (failed : ℕ) → (u ≡ t → ⊥) → (scope_at w s).owner ≡ t → Looks w (join_verdict q w t s f failed) u
looks-verdict (verdict.Ok None) w t u s f failed other mine = looks-phase w t u s Joined (steps f 0 []) (task_at w t).flag other mine
looks-verdict (verdict.Ok (Some n)) w t u s f failed other mine = looks-phase w t u s Joined (steps f 0 (n ∷ [])) (task_at w t).flag other mine
looks-verdict (verdict.Failed c) w t u s f failed other mine = looks-phase w t u s Joined (goes f failed 0 (c ∷ [])) (task_at w t).flag other mine

looks-join : (w : World) (t u s : ℕ) (f : Frame) (failed timeout interrupted : ℕ) → (u ≡ t → ⊥) → (scope_at w s).owner ≡ t → Looks w (join_scope w t f s failed timeout interrupted) u
unfolding join_scope
looks-join w t u s f failed timeout interrupted other mine =
    looks-cond w u (scope_at w s).expired _ _
    (λ e. looks-phase w t u s Joined (goes f timeout 0 []) (task_at w t).flag other mine)
    (λ e.
    looks-cond w u ((scope_at w s).cancelled || not (any_lives w s)) _ _
    (λ d. looks-verdict (result_of (scope_at w s).joiner (ends (scope_at w s)) (subtask_count w s)) w t u s f failed other mine)
    (λ d. looks-phase w t u s Attempted (goes f interrupted 0 []) false other mine))

looks-close : (w : World) (t u s : ℕ) (f : Frame) → (u ≡ t → ⊥) → (scope_at w s).owner ≡ t → is_in s (task_at w u).scope ≡ false → Looks w (close_scope w t f s) u
unfolding close_scope
looks-close w t u s f other mine out =
    let v : World = cancel w s in
    let owner : (scope_at v s).owner ≡ t = ((kept-cancel w s).scope s).same.owner ∙ mine in
    let h : Looks w v u = looks-cancel w s u (λ e. other (sym e ∙ mine)) out in
    looks-cond w u (any_lives v s) _ _
    (λ e. looks-trans w v _ u h (looks-scope v s u (record (scope_at v s) { phase = Closing }) (λ e. other (sym e ∙ owner))))
    (λ e. looks-trans w v _ u h (looks-phase v t u s Closed (record (steps f 0 []) { entries = drop 1 f.entries; slots = cleared v s f.slots }) (task_at v t).flag other owner))

looks-open : (w : World) (t u x : ℕ) (joiner : Joiner) (timed : Bool) → (u ≡ t → ⊥) → Looks w (open_scope w t (task_at w t).frame x joiner timed) u
unfolding open_scope
looks-open w t u x joiner timed other =
    let v : World = more_scopes w (new_scope w t joiner timed) in
    looks-trans w v _ u (looks-more_scopes w u (new_scope w t joiner timed)) (looks-frame v t u (opener w (task_at w t).frame x) (task_at w t).flag other)

looks-fork : (p : Program) (w : World) (t u s g : ℕ) (h : Option ℕ) → (u ≡ t → ⊥) → (scope_at w s).owner ≡ t → (u ≡ length w.tasks → ⊥) → Looks w (fork_task p w t (task_at w t).frame s g h) u
unfolding fork_task
looks-fork p w t u s g h other mine born =
    let x : Task = subtask_of p w (task_at w t).frame s g in
    let v : World = more_tasks w x in
    looks-trans w v _ u
    (looks-more_tasks w u x born (λ r less own. none r (s == r) refl own))
    (looks-frame v t u (forked (task_at w t).frame (routine p g).args h (length w.tasks)) (task_at v t).flag other)
  where
    none : (r : ℕ) (b : Bool) → (s == r) ≡ b → (scope_at w r).owner ≡ u → is_living_subtask r (subtask_of p w (task_at w t).frame s g) ≡ false
    none r false e own = rw e refl
    none r true e own = let same : s ≡ r = grind (arith, nat_tests) in absurd (other (sym own ∙ ap (λ n. (scope_at w n).owner) (sym same) ∙ mine))

looks-decide : (w : World) (s u : ℕ) → IsApart w s u → Looks w (decide w s) u
looks-decide w s u h = looks-cond w u (cancels (scope_at w s).joiner (ends (scope_at w s))) (cancel w s) w (λ e. looks-cancel w s u h.owner h.outside) (λ e. looks-refl w u)

looks-tell : (w : World) (t u : ℕ) (q : Option ℕ) (end : End) → ((s : ℕ) → q ≡ Some s → IsApart w s u) → Looks w (tell w t q end) u
looks-tell w t u None end h = looks-refl w u
looks-tell w t u (Some s) end h =
    let y : Scope = told (scope_at w s) t end in
    let v : World = with_scope w s y in
    let k : IsApart w s u = h s refl in
    let owner : (scope_at v s).owner ≡ (scope_at w s).owner = at_set (λ (scope : Scope). scope.owner ≡ (scope_at w s).owner) w.scopes s s y no_scope (λ e. refl) refl in
    looks-cond w u (scope_at w s).cancelled w (decide v s) (λ e. looks-refl w u)
    (λ e. looks-trans w v _ u (looks-scope w s u y k.owner) (looks-decide v s u (record { owner = λ same. k.owner (sym owner ∙ same); outside = k.outside })))

looks-end : (w : World) (t u : ℕ) (f : Frame) (end : End) → (u ≡ t → ⊥) → ((s : ℕ) → (task_at w t).scope ≡ Some s → IsApart w s u) → Looks w (end_task w t f end) u
unfolding end_task
looks-end w t u f end other h =
    let v : World = ended w t f end in
    let same : task_at v u ≡ task_at w u = get_or-set_other w.tasks t u x no_task other in
    looks-trans w v _ u
    (looks-task w t u x other (λ s born mine. elsewhere s mine (task_at w t).scope refl))
    (looks-tell v t u (task_at w t).scope end (λ s inside. let k = h s inside in record { owner = k.owner; outside = rw same k.outside }))
  where
    x : Task
    x = record (task_at w t) { frame = steps f 1 []; outcome = Some end }

    in_scope : (s r : ℕ) (a c : Bool) → (scope_at w s).owner ≡ u → ((scope_at w r).owner ≡ u → ⊥) → (b : Bool) → (r == s) ≡ b → (b && a) ≡ (b && c)
    in_scope s r a c mine never false e = refl
    in_scope s r a c mine never true e = let same : r ≡ s = grind (arith, nat_tests) in absurd (never (ap (λ n. (scope_at w n).owner) same ∙ mine))

    elsewhere : (s : ℕ) → (scope_at w s).owner ≡ u → (q : Option ℕ) → (task_at w t).scope ≡ q → (is_in s q && lives x) ≡ (is_in s q && lives (task_at w t))
    elsewhere s mine None e = refl
    elsewhere s mine (Some r) e = in_scope s r (lives x) (lives (task_at w t)) mine (h r e).owner (r == s) refl

-- ---- every instruction

pub owner_of : (p : Program) (w : World) (t x : ℕ) (i : Instr) → Facts w → slot (task_at w t).frame x ≡ slots.Own (named (slot (task_at w t).frame x)) → (scope_at w (named (slot (task_at w t).frame x))).owner ≡ t
owner_of p w t x i o mine = (o.sound.own t x (named (slot (task_at w t).frame x)) mine).owner

-- u is eqb-false from the scope of a task that ends
apart_around : (w : World) (t u : ℕ) → Facts w → lives (task_at w t) ≡ true → is_around (live w) (live_task_at (live w) t).scope u ≡ false → (s : ℕ) → (task_at w t).scope ≡ Some s → IsApart w s u
apart_around w t u o alive e s inside =
    let stands = stands_alive w t o.sound alive in
    let is : (live_task_at (live w) t).scope ≡ Some s = ap (λ (task : LiveTask). task.scope) (task_is w t stands) ∙ inside in
    let still = open_some w s (subst (λ (q : Option ℕ). stands_in w q ≡ true) inside stands) in
    apart_is w s u still (ap (λ q. is_around (live w) q u) (sym is) ∙ e)

pub looks-effect : (p : Program) (w : World) (t u : ℕ) (i : Instr) → Facts w → lives (task_at w t) ≡ true → IsFine p w t (task_at w t).frame i → (u ≡ t → ⊥) → touches (live w) t (Some i) u ≡ false → Looks w (effect p w t (task_at w t).frame i) u
looks-effect p w t u (Open x timed joiner) o alive is other e = looks-open w t u x joiner timed other
looks-effect p w t u (Fork x g h) o alive is other e =
    let mine = own_slot (slot (task_at w t).frame x) (first_no _ _ (first_no _ _ is.slots)) is.own in
    let n = tasks_born w in
    looks-fork p w t u (named (slot (task_at w t).frame x)) g h other (owner_of p w t x (Fork x g h) o mine) (λ same. eqb-false u (length (live w).tasks) e (same ∙ sym n))
looks-effect p w t u (Join x failed timeout interrupted) o alive is other e =
    let mine = own_slot (slot (task_at w t).frame x) (first_no _ _ (first_no _ _ is.slots)) is.own in
    looks-join w t u (named (slot (task_at w t).frame x)) (task_at w t).frame (unwrap_or failed 0) (unwrap_or timeout 0) interrupted other (owner_of p w t x (Join x failed timeout interrupted) o mine)
looks-effect p w t u (Close x) o alive is other e =
    let s : ℕ = named (slot (task_at w t).frame x) in
    let mine : slot (task_at w t).frame x ≡ slots.Own s = own_slot (slot (task_at w t).frame x) (first_no _ _ (first_no _ _ is.slots)) is.own in
    let still = open_some w s ((o.named t x alive).own s mine) in
    let f = frame_is w t o alive in
    looks-close w t u s (task_at w t).frame other (owner_of p w t x (Close x) o mine)
    (outside_is w s u still (ap (λ (g : Frame). is_in (named (slot g x)) (live_task_at (live w) u).scope) (sym f) ∙ e))
looks-effect p w t u Ret o alive is other e = looks-end w t u (task_at w t).frame (Success (operand (task_at w t).frame 0)) other (apart_around w t u o alive e)
looks-effect p w t u Fail o alive is other e = looks-end w t u (task_at w t).frame (Failed (operand (task_at w t).frame 0)) other (apart_around w t u o alive e)
looks-effect p w t u Interrupted o alive is other e = looks-frame w t u _ false other
looks-effect p w t u i o alive is other e = looks-frame w t u _ (task_at w t).flag other

-- ---- every event

perform_looks : (p : Program) (w : World) (t u : ℕ) (i : Option Instr) → Facts w → lives (task_at w t) ≡ true → misuse p w t ≡ None → instr_at p (task_at w t).frame ≡ i → (u ≡ t → ⊥) → touches (live w) t i u ≡ false → Looks w (perform p w t (task_at w t).frame i) u
perform_looks p w t u None o alive m e other h = looks-refl w u
perform_looks p w t u (Some i) o alive m e other h = looks-effect p w t u i o alive (fine p w t i m e) other h

step_looks : (p : Program) (w : World) (t u : ℕ) → Facts w → lives (task_at w t) ≡ true → (u ≡ t → ⊥) → touches (live w) t (instr_at p (task_at w t).frame) u ≡ false → (m : Option Fault) → misuse p w t ≡ m → In (λ v. Looks w v u) (stepped m p w t (task_at w t).frame)
step_looks p w t u o alive other h None m = perform_looks p w t u (instr_at p (task_at w t).frame) o alive m refl other h
step_looks p w t u o alive other h (Some kind) m = tt

event_looks : (p : Program) (w : World) (e : Event) (u : ℕ) → Facts w → concerns p (live w) e u ≡ false → In (λ v. Looks w v u) (apply p (Running w) e)
event_looks p w (event.Step t) u o h = by (can_step p w t) refl
  where
    by : (b : Bool) → can_step p w t ≡ b → In (λ v. Looks w v u) (cond b (stepped (misuse p w t) p w t (task_at w t).frame) (Running w))
    by false e = looks-refl w u
    by true e =
        let alive = (and_parts (lives (task_at w t)) _ e).0 in
        let k = or_parts (u == t) (touches (live w) t (instr_at p (alive_at (live w) t).frame) u) h in
        step_looks p w t u o alive (eqb-false u t k.0) (ap (λ (g : Frame). touches (live w) t (instr_at p g) u) (sym (frame_is w t o alive)) ∙ k.1) (misuse p w t) refl
event_looks p w (event.Interrupt t) u o h =
    looks-cond w u (lives (task_at w t)) _ w
    (λ e. looks-frame w t u (task_at w t).frame true (eqb-false u t h))
    (λ e. looks-refl w u)
event_looks p w (event.Expire s) u o h =
    looks-cond w u (can_expire (scope_at w s)) (cancel v s) w
    (λ e.
    let k = apart_is w s u (open_timely w s e) h in
    let owner : (scope_at v s).owner ≡ (scope_at w s).owner = at_set (λ (scope : Scope). scope.owner ≡ (scope_at w s).owner) w.scopes s s y no_scope (λ d. refl) refl in
    looks-trans w v _ u (looks-scope w s u y k.owner) (looks-cancel v s u (λ same. k.owner (sym owner ∙ same)) k.outside))
    (λ e. looks-refl w u)
  where
    y : Scope
    y = record (scope_at w s) { expired = true }

    v : World
    v = with_scope w s y

-- a relation of the views before and after an event is one of v and the view after it
pub between : (p : Program) (events : List Event) (v : Live) (n : ℕ) (e : Event) → NeverFaults p → StandsAt p events v n → (R : Live → Live → Type 0) → ((w x : World) → Facts w → Facts x → apply p (Running w) e ≡ Running x → R (live w) (live x)) → R v (live_apply p v e)
between p events v n e never h R law =
    let k = (turns_are_seen p never events v n e h).stands in
    let o : Facts h.world = subst (In Facts) h.runs (facts-after p events) in
    let q : Facts k.world = subst (In Facts) k.runs (facts-after p (events ++ e ∷ [])) in
    let next : apply p (Running h.world) e ≡ Running k.world = ap (λ s. apply p s e) (sym h.runs) ∙ sym (after-append p events (e ∷ [])) ∙ k.runs in
    subst (λ (a : Live). R a (live_apply p v e)) h.view (subst (R (live h.world)) k.view (law h.world k.world o q next))

pub others_stay : (p : Program) → NeverFaults p → OthersStay p
others_stay p never events v n h e u =
    between p events v n e never h (λ a b. concerns p a e u ≡ false → live_can_step p b u ≡ live_can_step p a u)
    (λ w x o q next eqb-false. can-same p w x u o q (subst (In (λ v. Looks w v u)) next (event_looks p w e u o eqb-false)))
