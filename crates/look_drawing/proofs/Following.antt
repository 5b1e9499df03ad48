-- What an event leaves as it was: tasks that don't live, and closed scopes.
use Rattle.std.proofs.Common.{◌≡◌, ℕ, ◌<◌, ◌≤◌, List, [], ◌∷◌, Bool, true, false, Option, Some, None, refl, sym, ◌∙◌, ap, length, arith, cond, ◌||◌, ◌&&◌, not}
use Rattle.std.proofs.Common.{get_or-set_other, length-set, length-append}
use Rattle.std.proofs.Math.ListN.{get_or-append}
use Rattle.std.proofs.lemmas.List.{get_or-map, length-map}
use Rattle.std.proofs.lemmas.Bool.{cond_both}
use Rattle.sts_code.specs.Program.{Program}
use Rattle.sts_code.specs.declared.instr.Instr.{Instr}
use Rattle.sts_code.specs.declared.instr.Instr.TheVariants.{Open, Fork, Join, Close, Interrupted, Ret, Fail}
use Rattle.sts_code.specs.declared.instr.Joiner.{Joiner}
use Rattle.sts_model.specs.declared.event.Event.{Event}
use Rattle.sts_model.specs.declared.event.End.{End}
use Rattle.sts_model.specs.declared.event.Phase.TheVariants.{Attempted, Joined, Closed}
use Rattle.sts_model.specs.declared.event.Verdict.{Verdict}
use Rattle.sts_model.specs.declared.event.Verdict.TheVariants as verdict
use Rattle.sts_model.specs.declared.record.Frame.{Frame}
use Rattle.sts_model.specs.declared.record.Scope.{Scope}
use Rattle.sts_model.specs.declared.record.Task.{Task}
use Rattle.sts_model.specs.Run.{apply}
use Rattle.sts_model.specs.World.{Running, World, task_at, scope_at, no_task, with_task, with_scope, with_frame}
use Rattle.sts_model.specs.Local.{goes, steps}
use Rattle.sts_model.specs.Joining.{cancels, result_of}
use Rattle.sts_model.specs.Living.{lives, is_subtask, any_lives, ends, subtask_count}
use Rattle.sts_model.specs.Cancelling.{raise, marked, cancel}
use Rattle.sts_model.specs.Effect.{effect, with_phase, open_scope, fork_task, subtask_of, joined, join_verdict, join_scope, close_scope, told, decide, tell, ended, end_task}
use Rattle.sts_model.specs.Outside.{can_expire}
use Rattle.laws_runs.specs.Runs.{Leads, In}
use Rattle.laws_runs.proofs.BirthLemmas.{more_tasks}
use Rattle.laws_runs.proofs.EntryLemmas.{tell_both}
use Rattle.laws_runs.proofs.EventLemmas.{Right, Next, next-leads, lead}
use Rattle.look_drawing.specs.Present.{Follows}

-- no task is lost, and each that doesn't live stays as it is, but perhaps the task t
record Rests (t : ℕ) (w v : World) : Type 0 where
  pub more : length w.tasks ≤ length v.tasks
  pub same : (u : ℕ) → (u ≡ t → ⊥) → u < length w.tasks → lives (task_at w u) ≡ false → task_at v u ≡ task_at w u

rests-refl : (t : ℕ) (w : World) → Rests t w w
rests-refl t w = record { more = omega arith; same = λ u other born dead. refl }

rests-trans : (t : ℕ) (w v x : World) → Rests t w v → Rests t v x → Rests t w x
rests-trans t w v x h k =
    let m = h.more in
    let n = k.more in
    record {
      more = omega (arith, m, n);
      same = λ u other born dead.
          let first = h.same u other born dead in
          k.same u other (omega (arith, m)) (ap lives first ∙ dead) ∙ first;
    }

-- ---- changes

rests-task : (t : ℕ) (w : World) (x : Task) → Rests t w (with_task w t x)
rests-task t w x =
    let n = length-set w.tasks t x in
    record {
      more = omega (arith, n);
      same = λ u other born dead. get_or-set_other w.tasks t u x no_task other;
    }

rests-frame : (t : ℕ) (w : World) (f : Frame) → Rests t w (with_frame w t f)
rests-frame t w f = rests-task t w (record (task_at w t) { frame = f })

rests-scopes : (t : ℕ) (w : World) (scopes : List Scope) → Rests t w (record w { scopes = scopes })
rests-scopes t w scopes = record { more = omega arith; same = λ u other born dead. refl }

rests-more_tasks : (t : ℕ) (w : World) (x : Task) → Rests t w (more_tasks w x)
rests-more_tasks t w x =
    let n = length-append w.tasks (x ∷ []) in
    record {
      more = omega (arith, n);
      same = λ u other born dead. get_or-append w.tasks (x ∷ []) no_task u born;
    }

-- a task that doesn't live gets no flag
not_raised : (s : ℕ) (x : Task) → lives x ≡ false → raise s x ≡ x
not_raised s x dead = by (is_subtask s x) (lives x) dead
  where
    by : (a b : Bool) → b ≡ false → cond (a && b) (record x { flag = true }) x ≡ x
    by true true e = cc
    by true false e = refl
    by false b e = refl

rests-cancel : (t : ℕ) (w : World) (s : ℕ) → Rests t w (cancel w s)
rests-cancel t w s =
    cond_both (scope_at w s).cancelled w (marked w s) (Rests t w) (λ e. rests-refl t w)
    (λ e.
    let n = length-map w.tasks (raise s) in
    record {
      more = omega (arith, n);
      same = λ u other born dead. get_or-map (raise s) w.tasks u no_task no_task born ∙ not_raised s (task_at w u) dead;
    })

-- ---- effects

rests-open : (t : ℕ) (w : World) (x : ℕ) (f : Frame) (joiner : Joiner) (timed : Bool) → Rests t w (open_scope w t f x joiner timed)
unfolding open_scope
rests-open t w x f joiner timed = rests-trans t w _ _ (rests-scopes t w _) (rests-frame t _ _)

rests-fork : (t : ℕ) (p : Program) (w : World) (f : Frame) (s g : ℕ) (h : Option ℕ) → Rests t w (fork_task p w t f s g h)
unfolding fork_task
rests-fork t p w f s g h = rests-trans t w (more_tasks w (subtask_of p w f s g)) _ (rests-more_tasks t w _) (rests-frame t _ _)

rests-joined : (t : ℕ) (w : World) (s : ℕ) (f : Frame) → Rests t w (joined w t s f)
rests-joined t w s f = rests-trans t w (with_phase w s Joined) _ (rests-scopes t w _) (rests-frame t _ f)

rests-verdict : (v : Verdict) (t : ℕ) (w : World) (s : ℕ) (f : Frame) (failed : ℕ) → Rests t w (join_verdict v w t s f failed)
rests-verdict (verdict.Ok None) t w s f failed = rests-joined t w s (steps f 0 [])
rests-verdict (verdict.Ok (Some x)) t w s f failed = rests-joined t w s (steps f 0 (x ∷ []))
rests-verdict (verdict.Failed c) t w s f failed = rests-joined t w s (goes f failed 0 (c ∷ []))

rests-join : (t : ℕ) (w : World) (f : Frame) (s failed timeout interrupted : ℕ) → Rests t w (join_scope w t f s failed timeout interrupted)
unfolding join_scope
rests-join t w f s failed timeout interrupted =
    cond_both (scope_at w s).expired _ _ (Rests t w)
    (λ e. rests-joined t w s (goes f timeout 0 []))
    (λ e.
    cond_both ((scope_at w s).cancelled || not (any_lives w s)) _ _ (Rests t w)
    (λ h. rests-verdict (result_of (scope_at w s).joiner (ends (scope_at w s)) (subtask_count w s)) t w s f failed)
    (λ h. rests-trans t w (with_phase w s Attempted) _ (rests-scopes t w _) (rests-task t _ _)))

rests-close : (t : ℕ) (w : World) (f : Frame) (s : ℕ) → Rests t w (close_scope w t f s)
unfolding close_scope
rests-close t w f s =
    cond_both (any_lives (cancel w s) s) _ _ (Rests t w)
    (λ e. rests-trans t w (cancel w s) _ (rests-cancel t w s) (rests-scopes t (cancel w s) _))
    (λ e. rests-trans t w (cancel w s) _ (rests-cancel t w s) (rests-trans t (cancel w s) (with_phase (cancel w s) s Closed) _ (rests-scopes t (cancel w s) _) (rests-frame t _ _)))

rests-decide : (t : ℕ) (w : World) (s : ℕ) → Rests t w (decide w s)
rests-decide t w s = cond_both (cancels (scope_at w s).joiner (ends (scope_at w s))) (cancel w s) w (Rests t w) (λ e. rests-cancel t w s) (λ e. rests-refl t w)

rests-tell : (t : ℕ) (w : World) (u : ℕ) (o : Option ℕ) (end : End) → Rests t w (tell w u o end)
rests-tell t w u o end =
    tell_both w u o end (Rests t w) (rests-refl t w)
    (λ s. rests-trans t w (with_scope w s (told (scope_at w s) u end)) _ (rests-scopes t w _) (rests-decide t _ s))

rests-end : (t : ℕ) (w : World) (f : Frame) (end : End) → Rests t w (end_task w t f end)
unfolding end_task
rests-end t w f end = rests-trans t w (ended w t f end) _ (rests-task t w _) (rests-tell t (ended w t f end) t (task_at w t).scope end)

rests-effect : (t : ℕ) (p : Program) (w : World) (i : Instr) → Rests t w (effect p w t (task_at w t).frame i)
rests-effect t p w (Open x timed joiner) = rests-open t w x _ joiner timed
rests-effect t p w (Fork x g h) = rests-fork t p w _ _ g h
rests-effect t p w (Join x failed timeout interrupted) = rests-join t w _ _ _ _ interrupted
rests-effect t p w (Close x) = rests-close t w _ _
rests-effect t p w Interrupted = rests-task t w _
rests-effect t p w Ret = rests-end t w _ _
rests-effect t p w Fail = rests-end t w _ _
rests-effect t p w i = rests-frame t w _

-- ---- events

-- no task is lost, and each that doesn't live stays as it is
record AllRest (w v : World) : Type 0 where
  pub same : (u : ℕ) → u < length w.tasks → lives (task_at w u) ≡ false → task_at v u ≡ task_at w u

-- the task that may change lives
but_alive : (t : ℕ) (w v : World) → lives (task_at w t) ≡ true → Rests t w v → AllRest w v
but_alive t w v alive h = record { same = λ u born dead. h.same u (λ same. let never : true ≡ false = sym alive ∙ ap (λ n. lives (task_at w n)) (sym same) ∙ dead in cc) born dead }

-- no task has that number
but_unborn : (w v : World) → Rests (length w.tasks) w v → AllRest w v
but_unborn w v h = record { same = λ u born dead. h.same u (λ same. omega (arith, born, same)) born dead }

all_rest-leads : (p : Program) → Leads p Right AllRest
all_rest-leads p =
    record {
      nothing = λ w h. but_unborn w w (rests-refl _ w);
      effect = λ w t i h d. but_alive t w _ d.alive (rests-effect t p w i);
      interrupt = λ w t h.
          cond_both (lives (task_at w t)) _ w (AllRest w)
          (λ alive. but_alive t w _ alive (rests-task t w _))
          (λ dead. but_unborn w w (rests-refl _ w));
      expire = λ w s h.
          cond_both (can_expire (scope_at w s)) _ w (AllRest w)
          (λ e. but_unborn w _ (rests-trans _ w (with_scope w s (record (scope_at w s) { expired = true })) _ (rests-scopes _ w _) (rests-cancel _ _ s)))
          (λ e. but_unborn w w (rests-refl _ w));
    }

follows-from : (w v : World) → Next w v → AllRest w v → Follows w v
follows-from w v h k =
    let l = h.later in
    record {
      tasks = l.tasks;
      scopes = l.scopes;
      resting = k.same;
      closed = λ s born is. (l.scope s born).marks.closed is;
    }

follows-leads : (p : Program) → Leads p Right Follows
follows-leads p =
    let n = next-leads p in
    let a = all_rest-leads p in
    record {
      nothing = λ w h. follows-from w w (n.nothing w h) (a.nothing w h);
      effect = λ w t i h d. follows-from w _ (n.effect w t i h d) (a.effect w t i h d);
      interrupt = λ w t h. follows-from w _ (n.interrupt w t h) (a.interrupt w t h);
      expire = λ w s h. follows-from w _ (n.expire w s h) (a.expire w s h);
    }

-- an event leads to a world that follows
pub follows-apply : (p : Program) (w : World) (e : Event) → Right w → In (Follows w) (apply p (Running w) e)
follows-apply p w e h = lead p Right Follows (follows-leads p) w e h
