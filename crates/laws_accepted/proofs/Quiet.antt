-- A step of one task, or an event from outside, leaves the frames of the others and the phases of
-- their scopes alone.
use Rattle.std.proofs.Common.{◌≡◌, ℕ, ◌<◌, ◌≤◌, [], ◌∷◌, Bool, true, false, Option, Some, None, refl, sym, ◌∙◌, ap, length, arith, ◌||◌, ◌&&◌, not, unwrap_or}
use Rattle.std.proofs.Common.{length-set, length-append}
use Rattle.std.proofs.lemmas.Bool.{cond_both, and_parts}
use Rattle.std.proofs.lemmas.List.{length-map, get_or_append_left}
use Rattle.sts_code.specs.Program.{Program, routine}
use Rattle.sts_code.specs.declared.instr.Instr.{Instr}
use Rattle.sts_code.specs.declared.instr.Instr.TheVariants.{Open, Fork, Join, Close, Ret, Fail}
use Rattle.sts_code.specs.declared.instr.Joiner.{Joiner}
use Rattle.sts_model.specs.declared.event.End.{End}
use Rattle.sts_model.specs.declared.event.End.TheVariants.{Success, Failed}
use Rattle.sts_model.specs.declared.event.Phase.{Phase}
use Rattle.sts_model.specs.declared.event.Phase.TheVariants.{Attempted, Joined, Closing, Closed}
use Rattle.sts_model.specs.declared.event.Verdict.{Verdict}
use Rattle.sts_model.specs.declared.event.Verdict.TheVariants as verdict
use Rattle.sts_model.specs.declared.record.Frame.{Frame}
use Rattle.sts_model.specs.declared.record.Task.{Task}
use Rattle.sts_model.specs.declared.record.Scope.{Scope}
use Rattle.sts_model.specs.declared.record.Slot.TheVariants as slots
use Rattle.sts_model.specs.World.{World, task_at, scope_at, no_task, no_scope, with_task, with_scope, with_frame}
use Rattle.sts_model.specs.Local.{goes, steps, operand}
use Rattle.sts_model.specs.Living.{lives, any_lives, ends, subtask_count}
use Rattle.sts_model.specs.Joining.{cancels, result_of}
use Rattle.sts_model.specs.Cancelling.{raised, marked, cancel}
use Rattle.sts_model.specs.Misuse.{slot, IsFine}
use Rattle.sts_model.specs.Effect.{effect, named, with_phase, joined, join_verdict, join_scope, close_scope, told, decide, tell, ended, end_task, open_scope}
use Rattle.sts_model.specs.Effect.{fork_task, subtask_of, forked}
use Rattle.sts_model.specs.Outside.{interrupt, can_expire, expire}
use Rattle.laws_runs.proofs.ListLemmas.{at_set, at_more}
use Rattle.laws_runs.proofs.KeptLemmas.{at_raised}
use Rattle.laws_runs.proofs.FrameLemmas.{own_slot}
use Rattle.laws_runs.proofs.EffectLemmas.{first_no}
use Rattle.laws_runs.proofs.BirthLemmas.{more_tasks, more_scopes, new_scope, opener}
use Rattle.laws_runs.proofs.SoundLemmas.{Sound}
use Rattle.laws_accepted.specs.Typed.{IsTimely}

-- everything but what is of the task o
pub record Quiet (w v : World) (o : Option ℕ) : Type 0 where
  pub tasks : length w.tasks ≤ length v.tasks
  pub scopes : length w.scopes ≤ length v.scopes
  pub frame : (u : ℕ) → u < length w.tasks → (o ≡ Some u → ⊥) → (task_at v u).frame ≡ (task_at w u).frame
  pub owner : (s : ℕ) → s < length w.scopes → (scope_at v s).owner ≡ (scope_at w s).owner
  pub phase : (s : ℕ) → s < length w.scopes → (o ≡ Some (scope_at w s).owner → ⊥) → (scope_at v s).phase ≡ (scope_at w s).phase
  pub timely : (s : ℕ) → IsTimely (scope_at w s) → IsTimely (scope_at v s)

pub quiet-refl : (w : World) (o : Option ℕ) → Quiet w w o
quiet-refl w o =
    record { tasks = omega arith; scopes = omega arith; frame = λ u less other. refl; owner = λ s less. refl; phase = λ s less other. refl; timely = λ s h. h }

pub quiet-trans : (w v x : World) (o : Option ℕ) → Quiet w v o → Quiet v x o → Quiet w x o
quiet-trans w v x o h k =
    let a = h.tasks in
    let b = k.tasks in
    let c = h.scopes in
    let d = k.scopes in
    record {
      tasks = omega (arith, a, b);
      scopes = omega (arith, c, d);
      frame = λ u less other. k.frame u (omega (arith, a, less)) other ∙ h.frame u less other;
      owner = λ s less. k.owner s (omega (arith, c, less)) ∙ h.owner s less;
      phase = λ s less other. k.phase s (omega (arith, c, less)) (λ e. other (rw (h.owner s less) at e)) ∙ h.phase s less other;
      timely = λ s e. k.timely s (h.timely s e);
    }

-- ---- building blocks

pub quiet-task : (w : World) (o : Option ℕ) (t : ℕ) (x : Task) → ((o ≡ Some t → ⊥) → x.frame ≡ (task_at w t).frame) → Quiet w (with_task w t x) o
quiet-task w o t x same =
    let n = length-set w.tasks t x in
    record {
      tasks = omega (arith, n);
      scopes = omega arith;
      frame = λ u less other. at_set (λ (task : Task). task.frame ≡ (task_at w u).frame) w.tasks t u x no_task (λ e. rw e (same (λ d. other (rw (← e) at d)))) refl;
      owner = λ s less. refl;
      phase = λ s less other. refl;
      timely = λ s h. h;
    }

pub quiet-scope : (w : World) (o : Option ℕ) (s : ℕ) (x : Scope) → x.owner ≡ (scope_at w s).owner → ((o ≡ Some (scope_at w s).owner → ⊥) → x.phase ≡ (scope_at w s).phase) → (IsTimely (scope_at w s) → IsTimely x) → Quiet w (with_scope w s x) o
quiet-scope w o s x owner phase timely =
    let n = length-set w.scopes s x in
    record {
      tasks = omega arith;
      scopes = omega (arith, n);
      frame = λ u less other. refl;
      owner = λ r less. at_set (λ (scope : Scope). scope.owner ≡ (scope_at w r).owner) w.scopes s r x no_scope (λ e. rw e owner) refl;
      phase = λ r less other. at_set (λ (scope : Scope). scope.phase ≡ (scope_at w r).phase) w.scopes s r x no_scope (λ e. rw e (phase (rw e at other))) refl;
      timely = λ r h. at_set IsTimely w.scopes s r x no_scope (λ e. timely (rw e at h)) h;
    }

pub quiet-phase : (w : World) (t s : ℕ) (phase : Phase) → (scope_at w s).owner ≡ t → Quiet w (with_phase w s phase) (Some t)
quiet-phase w t s phase mine =
    quiet-scope w (Some t) s (record (scope_at w s) { phase = phase }) refl (λ other. absurd (other (ap Some (sym mine)))) (λ h. h)

pub quiet-cancel : (w : World) (o : Option ℕ) (s : ℕ) → Quiet w (cancel w s) o
quiet-cancel w o s =
    cond_both (scope_at w s).cancelled w (marked w s) (λ (v : World). Quiet w v o)
    (λ e. quiet-refl w o)
    (λ e. quiet-trans w raising (marked w s) o flags (quiet-scope raising o s (record (scope_at w s) { cancelled = true }) refl (λ other. refl) (λ h. h)))
  where
    raising : World
    raising = record w { tasks = raised s w.tasks }

    flags : Quiet w (record w { tasks = raised s w.tasks }) o
    flags =
        let n : length (raised s w.tasks) ≡ length w.tasks = length-map w.tasks _ in
        record {
          tasks = omega (arith, n);
          scopes = omega arith;
          frame = λ u less other. at_raised (λ (task : Task). task.frame ≡ (task_at w u).frame) s w.tasks u refl refl;
          owner = λ r less. refl;
          phase = λ r less other. refl;
          timely = λ r h. h;
        }

pub quiet-frame : (w : World) (t : ℕ) (f : Frame) → Quiet w (with_frame w t f) (Some t)
quiet-frame w t f = quiet-task w (Some t) t (record (task_at w t) { frame = f }) (λ other. absurd (other refl))

-- ---- effects

quiet-joined : (w : World) (t s : ℕ) (f : Frame) → (scope_at w s).owner ≡ t → Quiet w (joined w t s f) (Some t)
quiet-joined w t s f mine = quiet-trans w (with_phase w s Joined) _ (Some t) (quiet-phase w t s Joined mine) (quiet-frame (with_phase w s Joined) t f)

quiet-verdict : (v : Verdict) (w : World) (t s : ℕ) (f : Frame) (failed : ℕ) → (scope_at w s).owner ≡ t → Quiet w (join_verdict v w t s f failed) (Some t)
quiet-verdict (verdict.Ok None) w t s f failed mine = quiet-joined w t s (steps f 0 []) mine
quiet-verdict (verdict.Ok (Some x)) w t s f failed mine = quiet-joined w t s (steps f 0 (x ∷ [])) mine
quiet-verdict (verdict.Failed c) w t s f failed mine = quiet-joined w t s (goes f failed 0 (c ∷ [])) mine

quiet-join : (w : World) (t s : ℕ) (f : Frame) (failed timeout interrupted : ℕ) → (scope_at w s).owner ≡ t → Quiet w (join_scope w t f s failed timeout interrupted) (Some t)
unfolding join_scope
quiet-join w t s f failed timeout interrupted mine =
    cond_both (scope_at w s).expired _ _ (λ (v : World). Quiet w v (Some t))
    (λ e. quiet-joined w t s (goes f timeout 0 []) mine)
    (λ e.
    cond_both ((scope_at w s).cancelled || not (any_lives w s)) _ _ (λ (v : World). Quiet w v (Some t))
    (λ h. quiet-verdict (result_of (scope_at w s).joiner (ends (scope_at w s)) (subtask_count w s)) w t s f failed mine)
    (λ h.
    quiet-trans w (with_phase w s Attempted) _ (Some t) (quiet-phase w t s Attempted mine)
    (quiet-task (with_phase w s Attempted) (Some t) t (record (task_at w t) { frame = goes f interrupted 0 []; flag = false }) (λ other. absurd (other refl)))))

owner-cancel : (w : World) (s : ℕ) → (scope_at (cancel w s) s).owner ≡ (scope_at w s).owner
owner-cancel w s =
    cond_both (scope_at w s).cancelled w (marked w s) (λ (v : World). (scope_at v s).owner ≡ (scope_at w s).owner)
    (λ e. refl)
    (λ e. at_set (λ (scope : Scope). scope.owner ≡ (scope_at w s).owner) w.scopes s s (record (scope_at w s) { cancelled = true }) no_scope (λ d. refl) refl)

quiet-close : (w : World) (t s : ℕ) (f : Frame) → (scope_at w s).owner ≡ t → Quiet w (close_scope w t f s) (Some t)
unfolding close_scope
quiet-close w t s f mine =
    let v : World = cancel w s in
    let k = quiet-cancel w (Some t) s in
    let mine_v : (scope_at v s).owner ≡ t = owner-cancel w s ∙ mine in
    cond_both (any_lives v s) _ _ (λ (x : World). Quiet w x (Some t))
    (λ e. quiet-trans w v _ (Some t) k (quiet-phase v t s Closing mine_v))
    (λ e. quiet-trans w v _ (Some t) k (quiet-trans v (with_phase v s Closed) _ (Some t) (quiet-phase v t s Closed mine_v) (quiet-frame (with_phase v s Closed) t _)))

quiet-decide : (w : World) (o : Option ℕ) (s : ℕ) → Quiet w (decide w s) o
quiet-decide w o s = cond_both (cancels (scope_at w s).joiner (ends (scope_at w s))) (cancel w s) w (λ (v : World). Quiet w v o) (λ e. quiet-cancel w o s) (λ e. quiet-refl w o)

quiet-tell : (w : World) (u : ℕ) (q : Option ℕ) (end : End) (o : Option ℕ) → Quiet w (tell w u q end) o
quiet-tell w u None end o = quiet-refl w o
quiet-tell w u (Some s) end o =
    let v : World = with_scope w s (told (scope_at w s) u end) in
    cond_both (scope_at w s).cancelled w (decide v s) (λ (x : World). Quiet w x o)
    (λ e. quiet-refl w o)
    (λ e. quiet-trans w v (decide v s) o (quiet-scope w o s (told (scope_at w s) u end) refl (λ other. refl) (λ h. h)) (quiet-decide v o s))

quiet-end : (w : World) (t : ℕ) (f : Frame) (end : End) → Quiet w (end_task w t f end) (Some t)
unfolding end_task
quiet-end w t f end =
    let v : World = ended w t f end in
    quiet-trans w v (tell v t (task_at w t).scope end) (Some t)
    (quiet-task w (Some t) t (record (task_at w t) { frame = steps f 1 []; outcome = Some end }) (λ other. absurd (other refl)))
    (quiet-tell v t (task_at w t).scope end (Some t))

quiet-more_scopes : (w : World) (o : Option ℕ) (x : Scope) → x.expired ≡ false → Quiet w (more_scopes w x) o
quiet-more_scopes w o x fresh =
    let n = length-append w.scopes (x ∷ []) in
    record {
      tasks = omega arith;
      scopes = omega (arith, n);
      frame = λ u less other. refl;
      owner = λ s less. rw (get_or_append_left w.scopes (x ∷ []) no_scope s less) refl;
      phase = λ s less other. rw (get_or_append_left w.scopes (x ∷ []) no_scope s less) refl;
      timely = λ s h. at_more IsTimely w.scopes x s no_scope (λ e d. cc) h;
    }

quiet-open : (w : World) (t x : ℕ) (joiner : Joiner) (timed : Bool) → Quiet w (open_scope w t (task_at w t).frame x joiner timed) (Some t)
unfolding open_scope
quiet-open w t x joiner timed =
    let v : World = more_scopes w (new_scope w t joiner timed) in
    quiet-trans w v _ (Some t) (quiet-more_scopes w (Some t) (new_scope w t joiner timed) refl) (quiet-frame v t (opener w (task_at w t).frame x))

quiet-more_tasks : (w : World) (o : Option ℕ) (x : Task) → Quiet w (more_tasks w x) o
quiet-more_tasks w o x =
    let n = length-append w.tasks (x ∷ []) in
    record {
      tasks = omega (arith, n);
      scopes = omega arith;
      frame = λ u less other. rw (get_or_append_left w.tasks (x ∷ []) no_task u less) refl;
      owner = λ s less. refl;
      phase = λ s less other. refl;
      timely = λ s h. h;
    }

quiet-fork : (p : Program) (w : World) (t s g : ℕ) (h : Option ℕ) → Quiet w (fork_task p w t (task_at w t).frame s g h) (Some t)
unfolding fork_task
quiet-fork p w t s g h =
    let v : World = more_tasks w (subtask_of p w (task_at w t).frame s g) in
    quiet-trans w v _ (Some t) (quiet-more_tasks w (Some t) (subtask_of p w (task_at w t).frame s g)) (quiet-frame v t (forked (task_at w t).frame (routine p g).args h (length w.tasks)))

-- the owner of the scope that a slot of its own names
own-owner : (w : World) (t x : ℕ) → Sound w → slot (task_at w t).frame x ≡ slots.Own (named (slot (task_at w t).frame x)) → (scope_at w (named (slot (task_at w t).frame x))).owner ≡ t
own-owner w t x o e = (o.own t x (named (slot (task_at w t).frame x)) e).owner

pub quiet-effect : (p : Program) (w : World) (t : ℕ) (i : Instr) → Sound w → IsFine p w t (task_at w t).frame i → Quiet w (effect p w t (task_at w t).frame i) (Some t)
quiet-effect p w t (Open x timed joiner) o fine = quiet-open w t x joiner timed
quiet-effect p w t (Fork x g h) o fine = quiet-fork p w t (named (slot (task_at w t).frame x)) g h
quiet-effect p w t (Join x failed timeout interrupted) o fine =
    let f : Frame = (task_at w t).frame in
    let mine : slot f x ≡ slots.Own (named (slot f x)) = own_slot (slot f x) (first_no _ _ (first_no _ _ fine.slots)) fine.own in
    quiet-join w t (named (slot f x)) f (unwrap_or failed 0) (unwrap_or timeout 0) interrupted (own-owner w t x o mine)
quiet-effect p w t (Close x) o fine =
    let f : Frame = (task_at w t).frame in
    let mine : slot f x ≡ slots.Own (named (slot f x)) = own_slot (slot f x) (first_no _ _ (first_no _ _ fine.slots)) fine.own in
    quiet-close w t (named (slot f x)) f (own-owner w t x o mine)
quiet-effect p w t Ret o fine = quiet-end w t (task_at w t).frame (Success (operand (task_at w t).frame 0))
quiet-effect p w t Fail o fine = quiet-end w t (task_at w t).frame (Failed (operand (task_at w t).frame 0))
quiet-effect p w t i o fine = quiet-task w (Some t) t _ (λ other. absurd (other refl))

-- ---- events from outside

pub quiet-interrupt : (w : World) (t : ℕ) → Quiet w (interrupt w t) None
quiet-interrupt w t =
    cond_both (lives (task_at w t)) _ w (λ (v : World). Quiet w v None)
    (λ e. quiet-task w None t (record (task_at w t) { flag = true }) (λ other. refl))
    (λ e. quiet-refl w None)

timed-first : (scope : Scope) → can_expire scope ≡ true → scope.timed ≡ true
timed-first scope e = (and_parts scope.timed _ (and_parts (scope.timed && not scope.expired) _ e).0).0

pub quiet-expire : (w : World) (s : ℕ) → Quiet w (expire w s) None
quiet-expire w s =
    let x : Scope = record (scope_at w s) { expired = true } in
    let v : World = with_scope w s x in
    cond_both (can_expire (scope_at w s)) (cancel v s) w (λ (y : World). Quiet w y None)
    (λ e. quiet-trans w v (cancel v s) None (quiet-scope w None s x refl (λ other. refl) (λ h d. timed-first (scope_at w s) e)) (quiet-cancel v None s))
    (λ e. quiet-refl w None)
