-- The view after an instruction's effect is the view's own effect of that instruction.
use Rattle.std.proofs.Common.{◌≡◌, ℕ, ◌<◌, ◌+◌, ◌-◌, List, [], ◌∷◌, ◌++◌, Bool, true, false, Option, Some, None, refl, sym, ◌∙◌, ap, length, arith, drop, cond}
use Rattle.std.proofs.Common.{◌&&◌, ◌||◌, not, pos, unwrap_or, length-append}
use Rattle.std.proofs.lemmas.List.{length-map, get_or_append_left}
use Rattle.std.specs.Prelude.{filter_map}
use Rattle.sts_code.specs.Program.{Program, routine}
use Rattle.sts_code.specs.declared.instr.Instr.{Instr}
use Rattle.sts_code.specs.declared.instr.Instr.TheVariants.{Open, Fork, Join, Close, Cancelled, Case, Get, Except, Tally, Total, Bind, Unbind, Read, Bound}
use Rattle.sts_code.specs.declared.instr.Instr.TheVariants.{OrElse, Interrupted, Ret, Fail}
use Rattle.sts_code.specs.declared.instr.Joiner.{Joiner}
use Rattle.sts_code.specs.declared.instr.Kind.{Kind}
use Rattle.sts_code.specs.declared.instr.Kind.TheVariants.{S, F, U}
use Rattle.sts_model.specs.declared.event.End.{End}
use Rattle.sts_model.specs.declared.event.End.TheVariants.{Success, Failed}
use Rattle.sts_model.specs.declared.event.Phase.{Phase}
use Rattle.sts_model.specs.declared.event.Phase.TheVariants.{Attempted, Joined, Closing, Closed}
use Rattle.sts_model.specs.declared.event.Verdict.{Verdict}
use Rattle.sts_model.specs.declared.event.Verdict.TheVariants as verdict
use Rattle.sts_model.specs.declared.record.Slot.{Slot}
use Rattle.sts_model.specs.declared.record.Slot.TheVariants as slots
use Rattle.sts_model.specs.declared.record.Entry.{Entry}
use Rattle.sts_model.specs.declared.record.Entry.TheVariants as entry
use Rattle.sts_model.specs.declared.record.Frame.{Frame}
use Rattle.sts_model.specs.declared.record.Task.{Task}
use Rattle.sts_model.specs.declared.record.Scope.{Scope}
use Rattle.sts_model.specs.declared.record.Bound as bound
use Rattle.sts_model.specs.World.{World, task_at, scope_at, no_task, no_scope, with_frame}
use Rattle.sts_model.specs.Local.{operand, goes, steps, truth}
use Rattle.sts_model.specs.Told as kept
use Rattle.sts_model.specs.Living.{lives, is_in, any_lives, is_closed, completion_of, ends, subtask_count, sub_state, parent}
use Rattle.sts_model.specs.Standing.{stands_in}
use Rattle.sts_model.specs.Environment.{bound_of}
use Rattle.sts_model.specs.Cancelling.{marked, cancel}
use Rattle.sts_model.specs.Misuse.{slot, is_scope, is_lent, is_sub, is_binding, is_entry_of, innermost, IsFine}
use Rattle.sts_model.specs.Effect.{effect, moved, named, with_phase, open_scope, fork_task, forked, subtask_of, joined, join_verdict, join_scope, is_of}
use Rattle.sts_model.specs.Effect.{cleared, closed, close_scope, tally}
use Rattle.sts_model.specs.Live.{Live, LiveTask, LiveScope, Alive, live, shown_scope}
use Rattle.laws_runs.proofs.ListLemmas.{at_set, past}
use Rattle.laws_runs.proofs.KeptLemmas.{kept-cancel}
use Rattle.laws_runs.proofs.SoundLemmas.{Sound, sound-kept, born_open}
use Rattle.laws_runs.proofs.FrameLemmas.{own_slot, at_own-is, leaves-moved}
use Rattle.laws_runs.proofs.BirthLemmas.{born_alive, more_tasks, more_scopes, new_scope, opener}
use Rattle.laws_runs.proofs.EffectLemmas.{first_no, frame-cancel}
use Rattle.laws_runs.proofs.CompletionLemmas.{AllTold}
use Rattle.sts_joiners.proofs.TellLemmas.{is_enough}
use Rattle.laws_runs.specs.Slots.{NamesStanding}
use Rattle.laws_live.specs.Reading.{live_task_at, with_alive, with_live_frame, with_live_phase, live_any_lives, live_count}
use Rattle.laws_live.specs.Effect.{live_effect, live_open, live_fork, live_subtask_of, live_child, live_joined, live_verdict, live_join, is_live_of}
use Rattle.laws_live.specs.Effect.{live_cleared, live_closed, live_close, live_state, live_tally, live_moved}
use Rattle.laws_live.proofs.ViewLemmas.{seen, tasks_born, scopes_born, scope_is, task_is, alive_is, any_is, count_is, stands_some, task_gone}
use Rattle.laws_live.proofs.Changes.{seen-task, seen-scope, seen-cancel, seen-gone, seen-more_tasks, seen-more_scopes}
use Rattle.laws_live.proofs.EndLemmas.{seen-end, open_some}

-- what holds of every state
pub record Facts (w : World) : Type 0 where
  pub sound : Sound w
  pub told : AllTold w
  pub named : (t x : ℕ) → lives (task_at w t) ≡ true → NamesStanding w t x

pub seen-cond : (b : Bool) (x y : World) (v u : Live) → (b ≡ true → live x ≡ v) → (b ≡ false → live y ≡ u) → live (cond b x y) ≡ cond b v u
seen-cond true x y v u h k = h refl
seen-cond false x y v u h k = k refl

-- ---- the frame alone

-- a frame with the same bindings
pub seen-frame : (w : World) (t : ℕ) (f : Frame) → t < length w.tasks → filter_map bound_of f.entries ≡ filter_map bound_of (task_at w t).frame.entries → live (with_frame w t f) ≡ with_live_frame (live w) t f
seen-frame w t f born same = seen-task w t f (task_at w t).flag (λ alive. record alive { frame = f }) born (rw same refl)

-- ---- what slots name

scope_named : (w : World) (t x : ℕ) → NamesStanding w t x → not (is_scope (slot (task_at w t).frame x)) ≡ false → is_closed (scope_at w (named (slot (task_at w t).frame x))).phase ≡ false
scope_named w t x h e = by (slot (task_at w t).frame x) refl e
  where
    by : (y : Slot) → slot (task_at w t).frame x ≡ y → not (is_scope y) ≡ false → is_closed (scope_at w (named y)).phase ≡ false
    by slots.Empty is e = cc
    by (slots.Own s) is e = open_some w s (h.own s is)
    by (slots.Lent s) is e = open_some w s (h.lent s is).0
    by (slots.Sub u) is e = cc

sub_named : (w : World) (t x : ℕ) → NamesStanding w t x → not (is_sub (slot (task_at w t).frame x)) ≡ false → stands_in w (task_at w (named (slot (task_at w t).frame x))).scope ≡ true
sub_named w t x h e = by (slot (task_at w t).frame x) refl e
  where
    by : (y : Slot) → slot (task_at w t).frame x ≡ y → not (is_sub y) ≡ false → stands_in w (task_at w (named y)).scope ≡ true
    by (slots.Sub u) is e = h.sub u is
    by _ is e = cc

-- the state of a subtask in the view
state_is : (w : World) (u : ℕ) → stands_in w (task_at w u).scope ≡ true → live_state (live w) u ≡ sub_state w u
state_is w u stands = ap (λ (task : LiveTask). task.state) (task_is w u stands)

-- ---- open

pub seen-open : (w : World) (t x : ℕ) (joiner : Joiner) (timed : Bool) → Facts w → lives (task_at w t) ≡ true → live (open_scope w t (task_at w t).frame x joiner timed) ≡ live_open (live w) t (task_at w t).frame x joiner timed
unfolding open_scope live_open
seen-open w t x joiner timed o alive =
    let f : Frame = (task_at w t).frame in
    let new : Scope = new_scope w t joiner timed in
    rw (alive_is w t o.sound alive, scopes_born w)
    (seen-frame (more_scopes w new) t (opener w f x) (born_alive w t alive) refl
    ∙ ap (λ (view : Live). with_live_frame view t (opener w f x)) (seen-more_scopes w new o.sound))

-- ---- fork

-- a subtask that did not complete
abbrev child_with : ℕ → Option Alive → Option LiveTask
child_with s a = Some (record { scope = Some s; state = None; alive = a })

-- what is seen of the new task
seen-child : (p : Program) (w : World) (f : Frame) (s g : ℕ) → is_closed (scope_at w s).phase ≡ false → completion_of (scope_at w s).completions (length w.tasks) ≡ None → seen w (length w.tasks) (subtask_of p w f s g) ≡ Some (live_subtask_of p (shown_scope (scope_at w s)) f s g)
seen-child p w f s g still none = rw (still, none) (by (scope_at w s).cancelled (live_child p (shown_scope (scope_at w s)) f s g))
  where
    by : (b : Bool) (a : Alive) → child_with s (cond (not b && true) (Some a) None) ≡ child_with s (cond b None (Some a))
    by true a = refl
    by false a = refl

-- who wasn't born has no completion
unborn : (w : World) (s : ℕ) → AllTold w → completion_of (scope_at w s).completions (length w.tasks) ≡ None
unborn w s all = by (completion_of (scope_at w s).completions (length w.tasks)) refl
  where
    by : (o : Option End) → completion_of (scope_at w s).completions (length w.tasks) ≡ o → o ≡ None
    by None e = refl
    by (Some end) e =
        let ended = (all s).ended (length w.tasks) end e in
        let nobody : (task_at w (length w.tasks)).outcome ≡ None = ap (λ (task : Task). task.outcome) (past w.tasks (length w.tasks) no_task (omega arith)) in
        cc

pub seen-fork : (p : Program) (w : World) (t s g : ℕ) (h : Option ℕ) → Facts w → lives (task_at w t) ≡ true → is_closed (scope_at w s).phase ≡ false → live (fork_task p w t (task_at w t).frame s g h) ≡ live_fork p (live w) t (task_at w t).frame s g h
unfolding fork_task live_fork
seen-fork p w t s g h o alive still =
    let f : Frame = (task_at w t).frame in
    let x : Task = subtask_of p w f s g in
    let born = born_alive w t alive in
    let n = length-append w.tasks (x ∷ []) in
    let frame : Frame = forked f (routine p g).args h (length w.tasks) in
    let same : task_at (more_tasks w x) t ≡ task_at w t = get_or_append_left w.tasks (x ∷ []) no_task t born in
    rw (scope_is w s still, tasks_born w)
    (seen-frame (more_tasks w x) t frame (omega (arith, n, born)) (ap (λ (task : Task). filter_map bound_of task.frame.entries) (sym same))
    ∙ ap (λ (view : Live). with_live_frame view t frame) (seen-more_tasks w x (omega (arith, born)) ∙ ap (λ y. record (live w) { tasks = (live w).tasks ++ y ∷ [] }) (seen-child p w f s g still (unborn w s o.told))))

-- ---- join

pub seen-phase : (w : World) (s : ℕ) (phase : Phase) → is_closed (scope_at w s).phase ≡ false → is_closed phase ≡ false → live (with_phase w s phase) ≡ with_live_phase (live w) s phase
seen-phase w s phase still after =
    seen-scope w s (record (scope_at w s) { phase = phase }) (λ scope. record scope { phase = phase }) still
    (record { stands = rw (still, after) refl; completions = refl; environment = refl })
    refl

seen-joined : (w : World) (t s : ℕ) (f : Frame) → t < length w.tasks → is_closed (scope_at w s).phase ≡ false → filter_map bound_of f.entries ≡ filter_map bound_of (task_at w t).frame.entries → live (joined w t s f) ≡ live_joined (live w) t s f
seen-joined w t s f born still same =
    seen-frame (with_phase w s Joined) t f born same
    ∙ ap (λ (view : Live). with_live_frame view t f) (seen-phase w s Joined still refl)

seen-verdict : (v : Verdict) (w : World) (t s failed : ℕ) → t < length w.tasks → is_closed (scope_at w s).phase ≡ false → live (join_verdict v w t s (task_at w t).frame failed) ≡ live_verdict v (live w) t s (task_at w t).frame failed
seen-verdict (verdict.Ok None) w t s failed born still = seen-joined w t s (steps (task_at w t).frame 0 []) born still refl
seen-verdict (verdict.Ok (Some n)) w t s failed born still = seen-joined w t s (steps (task_at w t).frame 0 (n ∷ [])) born still refl
seen-verdict (verdict.Failed c) w t s failed born still = seen-joined w t s (goes (task_at w t).frame failed 0 (c ∷ [])) born still refl

pub seen-join : (w : World) (t s failed timeout interrupted : ℕ) → Facts w → lives (task_at w t) ≡ true → is_closed (scope_at w s).phase ≡ false → live (join_scope w t (task_at w t).frame s failed timeout interrupted) ≡ live_join (live w) t (task_at w t).frame s failed timeout interrupted
unfolding join_scope live_join
seen-join w t s failed timeout interrupted o alive still =
    let f : Frame = (task_at w t).frame in
    let scope : Scope = scope_at w s in
    let born = born_alive w t alive in
    rw (scope_is w s still, any_is w s o.sound, count_is w s still)
    (seen-cond scope.expired _ _ _ _
    (λ e. seen-joined w t s (goes f timeout 0 []) born still refl)
    (λ e.
    seen-cond (scope.cancelled || not (any_lives w s)) _ _ _ _
    (λ h.
    ap (λ v. live (join_verdict v w t s f failed)) (is_enough scope.joiner (ends scope) (Success (pos 0)) (subtask_count w s)).result
    ∙ seen-verdict (kept.result_told scope.joiner (kept.told scope.joiner (ends scope)) (subtask_count w s)) w t s failed born still)
    (λ h.
    seen-task (with_phase w s Attempted) t (goes f interrupted 0 []) false (λ alive. record alive { frame = goes f interrupted 0 []; flag = false }) born refl
    ∙ ap (λ (view : Live). with_alive view t (λ alive. record alive { frame = goes f interrupted 0 []; flag = false })) (seen-phase w s Attempted still refl))))

-- ---- close

phase-cancel : (w : World) (s r : ℕ) → (scope_at (cancel w s) r).phase ≡ (scope_at w r).phase
phase-cancel w s r = by (scope_at w s).cancelled
  where
    by : (b : Bool) → (scope_at (cond b w (marked w s)) r).phase ≡ (scope_at w r).phase
    by true = refl
    by false = at_set (λ (scope : Scope). scope.phase ≡ (scope_at w r).phase) w.scopes s r (record (scope_at w s) { cancelled = true }) no_scope (λ e. rw e refl) refl

-- a slot that names the scope or a subtask of it
pub of_is : (w : World) (s : ℕ) (x : Slot) → is_closed (scope_at w s).phase ≡ false → is_live_of (live w) s x ≡ is_of w s x
of_is w s slots.Empty still = refl
of_is w s (slots.Own r) still = refl
of_is w s (slots.Lent r) still = refl
of_is w s (slots.Sub u) still = by (stands_in w (task_at w u).scope) refl
  where
    outside : (a : Bool) → is_in s (task_at w u).scope ≡ a → stands_in w (task_at w u).scope ≡ false → a ≡ false
    outside false e f = refl
    outside true e f = let h = stands_some w s (task_at w u).scope still e in cc

    by : (b : Bool) → stands_in w (task_at w u).scope ≡ b → is_in s (live_task_at (live w) u).scope ≡ is_in s (task_at w u).scope
    by true e = ap (λ (task : LiveTask). is_in s task.scope) (task_is w u e)
    by false e = rw (task_gone w u e) (sym (outside (is_in s (task_at w u).scope) refl e))

cleared_is : (w : World) (s : ℕ) (xs : List Slot) → is_closed (scope_at w s).phase ≡ false → live_cleared (live w) s xs ≡ cleared w s xs
cleared_is w s [] still = refl
cleared_is w s (x ∷ xs) still =
    let head : is_live_of (live w) s x ≡ is_of w s x = of_is w s x still in
    let tail : live_cleared (live w) s xs ≡ cleared w s xs = cleared_is w s xs still in
    rw (head, tail) refl

-- the innermost entry is that of the scope, and no binding
bindings-close : (s : ℕ) (es : List Entry) → not (innermost (is_entry_of s) es) ≡ false → filter_map bound_of (drop 1 es) ≡ filter_map bound_of es
bindings-close s [] e = cc
bindings-close s (entry.Binding k v ∷ es) e = cc
bindings-close s (entry.Scope r ∷ es) e = refl

seen-closed : (w : World) (t s : ℕ) (f : Frame) → t < length w.tasks → is_closed (scope_at w s).phase ≡ false → (task_at w t).frame ≡ f → not (innermost (is_entry_of s) f.entries) ≡ false → live (closed w t f s) ≡ live_closed (live w) t f s
seen-closed w t s f born still same order =
    let frame : Frame = record (steps f 0 []) { entries = drop 1 f.entries; slots = cleared w s f.slots } in
    rw (cleared_is w s f.slots still)
    (seen-frame (with_phase w s Closed) t frame born (rw same (bindings-close s f.entries order))
    ∙ ap (λ (view : Live). with_live_frame view t frame) (seen-gone w s (born_open w s still)))

pub seen-close : (w : World) (t s : ℕ) → Facts w → lives (task_at w t) ≡ true → is_closed (scope_at w s).phase ≡ false → not (innermost (is_entry_of s) (task_at w t).frame.entries) ≡ false → live (close_scope w t (task_at w t).frame s) ≡ live_close (live w) t (task_at w t).frame s
unfolding close_scope live_close
seen-close w t s o alive still order =
    let v : World = cancel w s in
    let k = kept-cancel w s in
    let tasks = k.tasks in
    let born = born_alive w t alive in
    let still_v : is_closed (scope_at v s).phase ≡ false = rw (phase-cancel w s s) still in
    let any : live_any_lives (live v) s ≡ any_lives v s = any_is v s (sound-kept w v o.sound k) in
    seen-cond (any_lives v s) (with_phase v s Closing) (closed v t (task_at w t).frame s) (with_live_phase (live v) s Closing) (live_closed (live v) t (task_at w t).frame s)
    (λ e. seen-phase v s Closing still_v refl)
    (λ e. seen-closed v t s (task_at w t).frame (omega (arith, tasks, born)) still_v (frame-cancel w s t) order)
    ∙ ap (λ b. cond b (with_live_phase (live v) s Closing) (live_closed (live v) t (task_at w t).frame s)) (sym any)
    ∙ ap (λ (view : Live). cond (live_any_lives view s) (with_live_phase view s Closing) (live_closed view t (task_at w t).frame s)) (seen-cancel w s still)

-- ---- readings

-- the number of completions is that of the successes and failures
told_count : (scope : Scope) → length scope.completions ≡ (kept.told scope.joiner (ends scope)).successes + (kept.told scope.joiner (ends scope)).failures
told_count scope =
    let all : length (ends scope) ≡ length scope.completions = length-map scope.completions _ in
    sym ((is_enough scope.joiner (ends scope) (Success (pos 0)) 0).count ∙ all)

tally_is : (w : World) (s : ℕ) (k : Kind) → is_closed (scope_at w s).phase ≡ false → live_tally (live w) s k ≡ tally w s k
tally_is w s S still = ap (λ (x : LiveScope). x.told.successes) (scope_is w s still)
tally_is w s F still = ap (λ (x : LiveScope). x.told.failures) (scope_is w s still)
tally_is w s U still =
    ap (λ (x : LiveScope). live_count (live w) s - (x.told.successes + x.told.failures)) (scope_is w s still)
    ∙ ap (λ n. n - ((kept.told (scope_at w s).joiner (ends (scope_at w s))).successes + (kept.told (scope_at w s).joiner (ends (scope_at w s))).failures)) (count_is w s still)
    ∙ ap (λ n. subtask_count w s - n) (sym (told_count (scope_at w s)))

-- ---- bindings

unbound : (es : List Entry) (outer : List bound.Bound) → not (innermost is_binding es) ≡ false → filter_map bound_of (drop 1 es) ++ outer ≡ drop 1 (filter_map bound_of es ++ outer)
unbound [] outer e = cc
unbound (entry.Binding k v ∷ es) outer e = refl
unbound (entry.Scope r ∷ es) outer e = cc

-- ---- every instruction

-- the scope of a slot that owns one
owned : (w : World) (t x : ℕ) → Facts w → lives (task_at w t) ≡ true → not (is_scope (slot (task_at w t).frame x)) ≡ false → is_lent (slot (task_at w t).frame x) ≡ false → is_closed (scope_at w (named (slot (task_at w t).frame x))).phase ≡ false
owned w t x o alive is own =
    let y : Slot = slot (task_at w t).frame x in
    open_some w (named y) ((o.named t x alive).own (named y) (own_slot y is own))

-- the state of the subtask that a slot names
subtask_is : (w : World) (t x : ℕ) → Facts w → lives (task_at w t) ≡ true → not (is_sub (slot (task_at w t).frame x)) ≡ false → live_state (live w) (named (slot (task_at w t).frame x)) ≡ sub_state w (named (slot (task_at w t).frame x))
subtask_is w t x o alive is = state_is w (named (slot (task_at w t).frame x)) (sub_named w t x (o.named t x alive) is)

-- the readings of an instruction are the same in the view
moved_is : (p : Program) (w : World) (t : ℕ) (i : Instr) → Facts w → lives (task_at w t) ≡ true → IsFine p w t (task_at w t).frame i → live_moved p (live w) t (task_at w t).frame i ≡ moved p w t (task_at w t).frame i
moved_is p w t (Cancelled x) o alive is =
    rw (scope_is w (named (slot (task_at w t).frame x)) (scope_named w t x (o.named t x alive) is.slots)) refl
moved_is p w t (Case x success failed) o alive is = rw (subtask_is w t x o alive (first_no _ _ is.slots)) refl
moved_is p w t (Get x) o alive is = rw (subtask_is w t x o alive (first_no _ _ is.slots)) refl
moved_is p w t (Except x) o alive is = rw (subtask_is w t x o alive (first_no _ _ is.slots)) refl
moved_is p w t (Tally x k) o alive is =
    rw (tally_is w (named (slot (task_at w t).frame x)) k (owned w t x o alive (first_no _ _ (first_no _ _ is.slots)) is.own)) refl
moved_is p w t (Total x) o alive is =
    rw (scope_is w (named (slot (task_at w t).frame x)) (owned w t x o alive (first_no _ _ (first_no _ _ is.slots)) is.own)) refl
moved_is p w t (Read k) o alive is = rw (alive_is w t o.sound alive) refl
moved_is p w t (Bound k) o alive is = rw (alive_is w t o.sound alive) refl
moved_is p w t (OrElse k) o alive is = rw (alive_is w t o.sound alive) refl
moved_is p w t i o alive is = refl

pub seen-effect : (p : Program) (w : World) (t : ℕ) (i : Instr) → Facts w → lives (task_at w t) ≡ true → IsFine p w t (task_at w t).frame i → live (effect p w t (task_at w t).frame i) ≡ live_effect p (live w) t (task_at w t).frame i
seen-effect p w t (Open x timed joiner) o alive is = seen-open w t x joiner timed o alive
seen-effect p w t (Fork x g h) o alive is =
    seen-fork p w t (named (slot (task_at w t).frame x)) g h o alive (owned w t x o alive (first_no _ _ (first_no _ _ is.slots)) is.own)
seen-effect p w t (Join x failed timeout interrupted) o alive is =
    seen-join w t (named (slot (task_at w t).frame x)) (unwrap_or failed 0) (unwrap_or timeout 0) interrupted o alive (owned w t x o alive (first_no _ _ (first_no _ _ is.slots)) is.own)
seen-effect p w t (Close x) o alive is =
    let f : Frame = (task_at w t).frame in
    let scoped = first_no _ _ (first_no _ _ is.slots) in
    let order : not (innermost (is_entry_of (named (slot f x))) f.entries) ≡ false = sym (at_own-is w (slot f x) (λ n scope. not (innermost (is_entry_of n) f.entries)) (own_slot (slot f x) scoped is.own)) ∙ is.structure in
    seen-close w t (named (slot f x)) o alive (owned w t x o alive scoped is.own) order
seen-effect p w t (Bind k) o alive is =
    let f : Frame = record (steps (task_at w t).frame 1 []) { entries = entry.Binding k (operand (task_at w t).frame 0) ∷ (task_at w t).frame.entries } in
    seen-task w t f (task_at w t).flag (λ alive. record alive { frame = f; environment = record { key = k; value = operand (task_at w t).frame 0 } ∷ alive.environment }) (born_alive w t alive) refl
seen-effect p w t Unbind o alive is =
    let f : Frame = record (steps (task_at w t).frame 0 []) { entries = drop 1 (task_at w t).frame.entries } in
    seen-task w t f (task_at w t).flag (λ alive. record alive { frame = f; environment = drop 1 alive.environment }) (born_alive w t alive)
    (rw (unbound (task_at w t).frame.entries (parent w (task_at w t).scope).environment is.structure) refl)
seen-effect p w t Interrupted o alive is =
    seen-task w t (steps (task_at w t).frame 0 (truth (task_at w t).flag ∷ [])) false (λ alive. record alive { frame = steps (task_at w t).frame 0 (truth alive.flag ∷ []); flag = false }) (born_alive w t alive) refl
seen-effect p w t Ret o alive is = seen-end w t (task_at w t).frame (Success (operand (task_at w t).frame 0)) o.sound o.told alive
seen-effect p w t Fail o alive is = seen-end w t (task_at w t).frame (Failed (operand (task_at w t).frame 0)) o.sound o.told alive
seen-effect p w t i o alive is =
    let f : Frame = (task_at w t).frame in
    seen-frame w t (moved p w t f i) (born_alive w t alive) (ap (filter_map bound_of) (leaves-moved p w t f i).entries)
    ∙ ap (λ (g : Frame). with_live_frame (live w) t g) (sym (moved_is p w t i o alive is))
