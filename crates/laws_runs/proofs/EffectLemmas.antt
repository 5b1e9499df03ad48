-- The facts that each effect keeps, except those of `open` and `fork`.
use Rattle.std.proofs.Common.{◌&&◌, ◌≡◌, ℕ, ◌<◌, ◌≤◌, subst, List, [], ◌∷◌, Bool, true, false, Option, Some, None, refl, sym, ◌∙◌, ap, length, cond, ◌||◌, not}
use Rattle.std.proofs.Common.{unwrap_or, arith, get_or-set_same}
use Rattle.std.proofs.lemmas.Bool.Decides.{nat_tests}
use Rattle.std.specs.List.{list_any}
use Rattle.std.specs.Prelude.{nat_lt, is_none}
use Rattle.sts_code.specs.Program.{Program}
use Rattle.sts_code.specs.declared.instr.Instr.{Instr}
use Rattle.sts_code.specs.declared.instr.Instr.TheVariants.{Open, Fork, Join, Close, Bind, Unbind, Interrupted, Ret, Fail}
use Rattle.sts_model.specs.declared.event.End.{End}
use Rattle.sts_model.specs.declared.event.Phase.{Phase}
use Rattle.sts_model.specs.declared.event.Phase.TheVariants.{Opened, Attempted, Joined, Closing, Closed}
use Rattle.sts_model.specs.declared.event.Verdict.{Verdict}
use Rattle.sts_model.specs.declared.event.Verdict.TheVariants as verdict
use Rattle.sts_model.specs.declared.record.Slot.TheVariants as slots
use Rattle.sts_model.specs.declared.record.Entry.{Entry}
use Rattle.sts_model.specs.declared.record.Frame.{Frame}
use Rattle.sts_model.specs.declared.record.Task.{Task}
use Rattle.sts_model.specs.declared.record.Scope.{Scope}
use Rattle.sts_model.specs.World.{World, task_at, scope_at, no_task, no_scope, with_task, with_scope}
use Rattle.sts_model.specs.Local.{goes, steps}
use Rattle.sts_model.specs.Joining.{cancels, result_of}
use Rattle.sts_model.specs.Living.{lives, is_in, is_subtask, is_living_subtask, any_lives, is_closed, ends, subtask_count}
use Rattle.sts_model.specs.Cancelling.{marked, cancel}
use Rattle.sts_model.specs.Misuse.{slot, can_join, is_entry_of, innermost, IsFine}
use Rattle.sts_model.specs.Effect.{effect, named, with_phase, joined, join_verdict, join_scope}
use Rattle.sts_model.specs.Effect.{closed, close_scope, told, decide, tell, ended, end_task, takes_memory}
use Rattle.sts_model.specs.Outside.{interrupt, can_expire, expire}
use Rattle.laws_runs.specs.Later.{stage}
use Rattle.laws_runs.proofs.ListLemmas.{at_set, found, none_found}
use Rattle.std.proofs.lemmas.Bool.{and_parts, or_parts, eq-eqb}
use Rattle.std.specs.Cmp.Derive.{both_true}
use Rattle.laws_runs.proofs.LaterLemmas.{moves_on-same, completes-refl}
use Rattle.laws_runs.proofs.KeptLemmas.{Kept, kept-refl, kept-trans, kept-task, kept-scope, kept-cond, at_raised}
use Rattle.laws_runs.proofs.StillLemmas.{Still, Fits, still-refl, still-trans, still-cond, still-task, still-frame, still-scope, still-phase, still-cancel}
use Rattle.laws_runs.proofs.FrameLemmas.{fits-refl, fits-leaves, leaves-moved, fits-bind, fits-unbind, fits-close, own_slot, at_own-is}
use Rattle.laws_runs.proofs.SoundLemmas.{Sound, sound-kept}

-- ---- join

open_at_join : (phase : Phase) → not (can_join phase) ≡ false → is_closed phase ≡ false
open_at_join Opened e = refl
open_at_join Attempted e = refl
open_at_join _ e = cc

early : (phase : Phase) → not (can_join phase) ≡ false → stage phase ≤ 1
early Opened e = omega arith
early Attempted e = omega arith
early _ e = cc

not_closed : (phase : Phase) → is_closed phase ≡ false → stage phase ≤ 3
not_closed Closed e = cc
not_closed _ e = omega arith

at_most_closed : (phase : Phase) → stage phase ≤ 4
at_most_closed Opened = omega arith
at_most_closed _ = omega arith

-- a phase of a scope that may be joined, to one that isn't Closed
still-open_phase : (w : World) (s : ℕ) (phase : Phase) → not (can_join (scope_at w s).phase) ≡ false → 1 ≤ stage phase → is_closed phase ≡ false → Still w (with_phase w s phase)
still-open_phase w s phase before next after =
    let first = early (scope_at w s).phase before in
    let open_before = open_at_join (scope_at w s).phase before in
    still-phase w s phase (omega (arith, first, next)) (λ e. cc) (λ e h. cc)

pub still-joined : (w : World) (t s : ℕ) (f : Frame) → not (can_join (scope_at w s).phase) ≡ false → Fits w (task_at w t).frame f → Still w (joined w t s f)
still-joined w t s f before fits =
    still-trans w (with_phase w s Joined) _ (still-open_phase w s Joined before (omega arith) refl)
    (still-frame (with_phase w s Joined) t f (record { own = fits.own; entries = λ r still. fits.entries r (reopened r still) }))
  where
    reopened : (r : ℕ) → is_closed (scope_at (with_phase w s Joined) r).phase ≡ false → is_closed (scope_at w r).phase ≡ false
    reopened r = at_set (λ (scope : Scope). is_closed scope.phase ≡ false → is_closed (scope_at w r).phase ≡ false) w.scopes s r (record (scope_at w s) { phase = Joined }) no_scope (λ e h. rw e (open_at_join (scope_at w s).phase before)) (λ h. h)

still-verdict : (v : Verdict) (w : World) (t s : ℕ) (f : Frame) (failed : ℕ) → not (can_join (scope_at w s).phase) ≡ false → Fits w (task_at w t).frame f → Still w (join_verdict v w t s f failed)
still-verdict (verdict.Ok None) w t s f failed before fits = still-joined w t s (steps f 0 []) before (record { own = fits.own; entries = fits.entries })
still-verdict (verdict.Ok (Some x)) w t s f failed before fits = still-joined w t s (steps f 0 (x ∷ [])) before (record { own = fits.own; entries = fits.entries })
still-verdict (verdict.Failed c) w t s f failed before fits = still-joined w t s (goes f failed 0 (c ∷ [])) before (record { own = fits.own; entries = fits.entries })

still-interrupted : (w : World) (t s to : ℕ) → not (can_join (scope_at w s).phase) ≡ false → Still w (with_task (with_phase w s Attempted) t (record (task_at w t) { frame = goes (task_at w t).frame to 0 []; flag = false }))
still-interrupted w t s to before =
    still-trans w (with_phase w s Attempted) _ (still-open_phase w s Attempted before (omega arith) refl)
    (still-task (with_phase w s Attempted) t (goes (task_at w t).frame to 0 []) false (record { own = λ i r e. e; entries = λ r still e. e }))

still-join : (w : World) (t s failed timeout interrupted : ℕ) → not (can_join (scope_at w s).phase) ≡ false → Still w (join_scope w t (task_at w t).frame s failed timeout interrupted)
unfolding join_scope
still-join w t s failed timeout interrupted before =
    let f : Frame = (task_at w t).frame in
    still-cond w (scope_at w s).expired _ _
    (λ e. still-joined w t s (goes f timeout 0 []) before (record { own = λ i r h. h; entries = λ r still h. h }))
    (λ e. still-cond w ((scope_at w s).cancelled || not (any_lives w s)) _ _
    (λ h. still-verdict (result_of (scope_at w s).joiner (ends (scope_at w s)) (subtask_count w s)) w t s f failed before (fits-refl w f))
    (λ h. still-interrupted w t s interrupted before))

-- ---- close

pub is_in-some : (s : ℕ) (o : Option ℕ) → o ≡ Some s → is_in s o ≡ true
is_in-some s o e = rw e (eq-eqb s s refl)

pub some-is_in : (s : ℕ) (o : Option ℕ) → is_in s o ≡ true → o ≡ Some s
some-is_in s None e = cc
some-is_in s (Some r) e = let q : r ≡ s = grind (arith, nat_tests) in ap Some q

-- if no subtask lives, this one doesn't
pub dead_in : (w : World) (s u : ℕ) → any_lives w s ≡ false → (task_at w u).scope ≡ Some s → lives (task_at w u) ≡ false
dead_in w s u none inside = by (lives (task_at w u)) refl
  where
    by : (b : Bool) → lives (task_at w u) ≡ b → b ≡ false
    by false e = refl
    by true e =
        let out = none_found (is_living_subtask s) w.tasks u no_task refl none in
        let is = both_true (is_in-some s (task_at w u).scope inside) e in
        cc

-- if some subtask lives, here is one
pub alive_in : (w : World) (s : ℕ) → any_lives w s ≡ true → (u : ℕ) × ((task_at w u).scope ≡ Some s) × (lives (task_at w u) ≡ true)
alive_in w s e =
    let h = found (is_living_subtask s) w.tasks no_task e in
    let k = and_parts (is_subtask s (task_at w h.0)) (lives (task_at w h.0)) h.1 in
    (h.0, some-is_in s (task_at w h.0).scope k.0, k.1)

pub frame-cancel : (w : World) (s t : ℕ) → (task_at (cancel w s) t).frame ≡ (task_at w t).frame
frame-cancel w s t = by (scope_at w s).cancelled
  where
    by : (b : Bool) → (task_at (cond b w (marked w s)) t).frame ≡ (task_at w t).frame
    by true = refl
    by false = at_raised (λ (task : Task). task.frame ≡ (task_at w t).frame) s w.tasks t refl refl

still-closing : (w : World) (s : ℕ) → Sound w → any_lives w s ≡ true → Still w (with_phase w s Closing)
still-closing w s o some =
    still-phase w s Closing (closing_next (is_closed (scope_at w s).phase) refl)
    (λ closed. let h = alive_in w s some in let dead = o.empty s h.0 closed h.1 in cc)
    (λ e h. cc)
  where
    closing_next : (b : Bool) → is_closed (scope_at w s).phase ≡ b → stage (scope_at w s).phase ≤ 3
    closing_next false e = not_closed (scope_at w s).phase e
    closing_next true closed = let h = alive_in w s some in let dead = o.empty s h.0 closed h.1 in cc

still-closed : (w v : World) (t s : ℕ) (f : Frame) → s < length v.scopes → any_lives v s ≡ false → (task_at v t).frame ≡ f → not (innermost (is_entry_of s) f.entries) ≡ false → Still v (closed v t f s)
still-closed w v t s f born none same order =
    let x : Scope = record (scope_at v s) { phase = Closed } in
    let now : scope_at (with_phase v s Closed) s ≡ x = get_or-set_same v.scopes s x no_scope born in
    let shut : is_closed (scope_at (with_phase v s Closed) s).phase ≡ true = rw now refl in
    still-trans v (with_phase v s Closed) _
    (still-phase v s Closed (at_most_closed (scope_at v s).phase) (λ e. refl) (λ before after u inside. dead_in v s u none inside))
    (still-frame (with_phase v s Closed) t _ (rw same (fits-close v (with_phase v s Closed) f s shut order)))

still-close : (w : World) (t s : ℕ) → Sound w → s < length w.scopes → not (innermost (is_entry_of s) (task_at w t).frame.entries) ≡ false → Still w (close_scope w t (task_at w t).frame s)
unfolding close_scope
still-close w t s o born order =
    let v : World = cancel w s in
    let k = still-cancel w s in
    let scopes = k.kept.scopes in
    let born_v : s < length v.scopes = omega (arith, scopes, born) in
    still-cond w (any_lives v s) _ _
    (λ e. still-trans w v _ k (still-closing v s (sound-kept w v o k.kept) e))
    (λ e. still-trans w v _ k (still-closed w v t s (task_at w t).frame born_v e (frame-cancel w s t) order))

-- ---- the end of a task

-- a living task has no end
pub endless : (task : Task) (end : End) → lives task ≡ true → task.outcome ≡ Some end → ⊥
endless task end alive e =
    let h = (and_parts task.started (is_none task.outcome) alive).1 in
    let k : is_none (Some end) ≡ true = subst (λ (o : Option End). is_none o ≡ true) e h in
    cc

no_entry : (test : Entry → Bool) (es : List Entry) → nat_lt 0 (length es) ≡ false → list_any test es ≡ true → ⊥
no_entry test [] none e = cc
no_entry test (x ∷ xs) none e = let h : length (x ∷ xs) ≤ 0 = grind (arith, nat_tests) in absurd (omega (arith, h))

pub kept-ended : (w : World) (t : ℕ) (end : End) → lives (task_at w t) ≡ true → nat_lt 0 (length (task_at w t).frame.entries) ≡ false → Kept w (ended w t (task_at w t).frame end)
kept-ended w t end alive none =
    kept-task w t (record (task_at w t) { frame = steps (task_at w t).frame 1 []; outcome = Some end })
    (record { same = record { started = refl; scope = refl }; outcome = λ other e. absurd (endless (task_at w t) other alive e) })
    (λ i s e. e)
    (λ s still h. absurd (no_entry (is_entry_of s) (task_at w t).frame.entries none h.entry))

pub kept-told : (w : World) (t s : ℕ) (end : End) → (scope_at w s).cancelled ≡ false → Kept w (with_scope w s (told (scope_at w s) t end))
kept-told w t s end uncancelled =
    kept-scope w s (told (scope_at w s) t end)
    (record {
      same = record { owner = refl; joiner = refl; timed = refl; environment = refl };
      marks = record { closed = λ e. e; cancelled = λ e. e; expired = λ e. e };
      moves = moves_on-same (scope_at w s) (told (scope_at w s) t end) refl refl;
      completions = record { grow = (record { task = t; end = end } ∷ [], refl); stop = λ e. cc };
    })
    (λ before after. cc)

pub still-decide : (w : World) (s : ℕ) → Still w (decide w s)
still-decide w s = still-cond w (cancels (scope_at w s).joiner (ends (scope_at w s))) (cancel w s) w (λ e. still-cancel w s) (λ e. still-refl w)

pub kept-tell : (w : World) (t : ℕ) (o : Option ℕ) (end : End) → Kept w (tell w t o end)
kept-tell w t None end = kept-refl w
kept-tell w t (Some s) end =
    let v : World = with_scope w s (told (scope_at w s) t end) in
    kept-cond w (scope_at w s).cancelled w (decide v s) (λ e. kept-refl w)
    (λ e. kept-trans w v (decide v s) (kept-told w t s end e) (still-decide v s).kept)

pub kept-end : (w : World) (t : ℕ) (end : End) → lives (task_at w t) ≡ true → nat_lt 0 (length (task_at w t).frame.entries) ≡ false → Kept w (end_task w t (task_at w t).frame end)
unfolding end_task
kept-end w t end alive none =
    let v : World = ended w t (task_at w t).frame end in
    kept-trans w v (tell v t (task_at w t).scope end) (kept-ended w t end alive none) (kept-tell v t (task_at w t).scope end)

-- ---- events from outside

pub still-interrupt : (w : World) (t : ℕ) → Still w (interrupt w t)
still-interrupt w t =
    still-cond w (lives (task_at w t)) _ w
    (λ e. still-task w t (task_at w t).frame true (fits-refl w (task_at w t).frame))
    (λ e. still-refl w)

timely : (scope : Scope) → can_expire scope ≡ true → can_join scope.phase ≡ true
timely scope e = (and_parts (scope.timed && not scope.expired) (can_join scope.phase) e).1

pub still-expire : (w : World) (s : ℕ) → Still w (expire w s)
still-expire w s =
    let x : Scope = record (scope_at w s) { expired = true } in
    let c = completes-refl (scope_at w s) in
    still-cond w (can_expire (scope_at w s)) _ w
    (λ e. still-trans w (with_scope w s x) (cancel (with_scope w s x) s)
    (still-scope w s x
    (record {
      same = record { owner = refl; joiner = refl; timed = refl; environment = refl };
      marks = record { closed = λ h. h; cancelled = λ h. h; expired = λ h. refl };
      moves = record { forward = omega arith; timely = λ h. let can = timely (scope_at w s) e in cc };
      completions = record { grow = c.grow; stop = λ h. refl };
    })
    refl
    (λ before after. cc))
    (still-cancel (with_scope w s x) s))
    (λ e. still-refl w)

-- ---- all instructions but four

-- the facts of an instruction on a scope of its own
pub owned_slot : (p : Program) (w : World) (t : ℕ) (i : Instr) (x : ℕ) → Sound w → slot (task_at w t).frame x ≡ slots.Own (named (slot (task_at w t).frame x)) → named (slot (task_at w t).frame x) < length w.scopes
owned_slot p w t i x o e = (o.own t x (named (slot (task_at w t).frame x)) e).born

pub first_no : (a b : Bool) → (a || b) ≡ false → a ≡ false
first_no a b e = (or_parts a b e).0

pub still-effect : (p : Program) (w : World) (t : ℕ) (i : Instr) → Sound w → IsFine p w t (task_at w t).frame i → takes_memory i ≡ false → Still w (effect p w t (task_at w t).frame i)
still-effect p w t (Open s timed joiner) o fine e = cc
still-effect p w t (Fork s g h) o fine e = cc
still-effect p w t Ret o fine e = cc
still-effect p w t Fail o fine e = cc
still-effect p w t (Join x failed timeout interrupted) o fine e =
    let f : Frame = (task_at w t).frame in
    let mine : slot f x ≡ slots.Own (named (slot f x)) = own_slot (slot f x) (first_no _ _ (first_no _ _ fine.slots)) fine.own in
    let legal : not (can_join (scope_at w (named (slot f x))).phase) ≡ false = sym (at_own-is w (slot f x) (λ n scope. not (can_join scope.phase)) mine) ∙ fine.legal in
    still-join w t (named (slot f x)) (unwrap_or failed 0) (unwrap_or timeout 0) interrupted legal
still-effect p w t (Close x) o fine e =
    let f : Frame = (task_at w t).frame in
    let mine : slot f x ≡ slots.Own (named (slot f x)) = own_slot (slot f x) (first_no _ _ (first_no _ _ fine.slots)) fine.own in
    let order : not (innermost (is_entry_of (named (slot f x))) f.entries) ≡ false = sym (at_own-is w (slot f x) (λ n scope. not (innermost (is_entry_of n) f.entries)) mine) ∙ fine.structure in
    still-close w t (named (slot f x)) o (owned_slot p w t (Close x) x o mine) order
still-effect p w t (Bind k) o fine e = still-frame w t _ (fits-bind w (task_at w t).frame k)
still-effect p w t Unbind o fine e = still-frame w t _ (fits-unbind w (task_at w t).frame fine.structure)
still-effect p w t Interrupted o fine e = still-task w t _ false (record { own = λ i r q. q; entries = λ r still q. q })
still-effect p w t i o fine e = still-frame w t _ (fits-leaves w (task_at w t).frame _ _ (leaves-moved p w t (task_at w t).frame i))
