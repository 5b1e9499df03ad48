-- After a `join` had an outcome, which subtasks live, and which were started.
use Rattle.std.proofs.Common.{◌⊎◌, inl, inr, ◌≡◌, ℕ, Bool, true, false, Option, Some, refl, sym, ◌∙◌, arith, not}
use Rattle.sts_code.specs.Program.{Program}
use Rattle.sts_code.specs.declared.instr.Joiner.{Joiner}
use Rattle.sts_model.specs.declared.event.Phase.{Phase}
use Rattle.sts_model.specs.declared.event.Phase.TheVariants.{Opened}
use Rattle.sts_model.specs.declared.record.Task.{Task}
use Rattle.sts_model.specs.declared.record.Scope.{Scope}
use Rattle.sts_model.specs.World.{World, task_at, scope_at, no_task, no_scope}
use Rattle.sts_model.specs.Living.{lives, any_lives}
use Rattle.sts_model.specs.Misuse.{is_joined, is_opened}
use Rattle.sts_model.specs.Effect.{open_scope, fork_task, subtask_of}
use Rattle.laws_runs.proofs.ListLemmas.{at_set, at_more, within}
use Rattle.laws_runs.specs.Later.{LaterTask}
use Rattle.laws_runs.proofs.LaterLemmas.{later_task-refl}
use Rattle.laws_runs.proofs.KeptLemmas.{Kept, dead_later}
use Rattle.laws_runs.proofs.EffectLemmas.{dead_in}
use Rattle.laws_runs.proofs.CauseLemmas.{AllCaused, AllFollow, follow-open}
use Rattle.laws_runs.proofs.BirthLemmas.{more_tasks, new_scope, opener, still-forker}

pub record Settled (w : World) : Type 0 where
  pub caused : AllCaused w
  pub joined : (s u : ℕ) → is_joined (scope_at w s).phase ≡ true → (scope_at w s).cancelled ≡ false → (task_at w u).scope ≡ Some s → lives (task_at w u) ≡ false
  pub started : (s u : ℕ) → (task_at w u).scope ≡ Some s → (scope_at w s).cancelled ≡ false → (task_at w u).started ≡ true

-- a scope that isn't cancelled later wasn't before
uncancelled_before : (x y : Scope) → (x.cancelled ≡ true → y.cancelled ≡ true) → y.cancelled ≡ false → x.cancelled ≡ false
uncancelled_before x y stays still = by x.cancelled refl
  where
    by : (b : Bool) → x.cancelled ≡ b → b ≡ false
    by false e = refl
    by true e = let c = stays e in cc

settled-later : (w v : World) → Settled w → AllFollow w v.scopes → ((u : ℕ) → LaterTask (task_at w u) (task_at v u)) → ((s : ℕ) → (scope_at w s).cancelled ≡ true → (scope_at v s).cancelled ≡ true) → Settled v
settled-later w v o follows tasks stays =
    record {
      caused = λ s born. (follows s born).cause;
      joined = λ s u joined still inside.
          let born = within (λ (scope : Scope). is_joined scope.phase) v.scopes s no_scope refl joined in
          let before = uncancelled_before (scope_at w s) (scope_at v s) (stays s) still in
          dead_later (task_at w u) (task_at v u) (tasks u) (by s u before (sym (tasks u).same.scope ∙ inside) ((follows s born).joined joined still));
      started = λ s u inside still. (tasks u).same.started ∙ o.started s u (sym (tasks u).same.scope ∙ inside) (uncancelled_before (scope_at w s) (scope_at v s) (stays s) still);
    }
  where
    by : (s u : ℕ) → (scope_at w s).cancelled ≡ false → (task_at w u).scope ≡ Some s → (is_joined (scope_at w s).phase ≡ true) ⊎ (any_lives w s ≡ false) → lives (task_at w u) ≡ false
    by s u still inside (inl joined) = o.joined s u joined still inside
    by s u still inside (inr none) = dead_in w s u none inside

pub settled-kept : (w v : World) → Settled w → Kept w v → AllFollow w v.scopes → Settled v
settled-kept w v o k follows = settled-later w v o follows k.task (λ s. (k.scope s).marks.cancelled)

opened_tasks : (w : World) (t x : ℕ) (joiner : Joiner) (timed : Bool) (u : ℕ) → LaterTask (task_at w u) (task_at (open_scope w t (task_at w t).frame x joiner timed) u)
unfolding open_scope
opened_tasks w t x joiner timed u =
    at_set (λ (task : Task). LaterTask (task_at w u) task) w.tasks t u (record (task_at w t) { frame = opener w (task_at w t).frame x }) no_task
    (λ e. rw e (record { same = record { started = refl; scope = refl }; outcome = λ end d. d }))
    (later_task-refl (task_at w u))

opened_cancelled : (w : World) (t x : ℕ) (joiner : Joiner) (timed : Bool) (s : ℕ) → (scope_at w s).cancelled ≡ true → (scope_at (open_scope w t (task_at w t).frame x joiner timed) s).cancelled ≡ true
unfolding open_scope
opened_cancelled w t x joiner timed s cancelled =
    at_more (λ (scope : Scope). scope.cancelled ≡ true) w.scopes (new_scope w t joiner timed) s no_scope
    (λ e. let born = within (λ (scope : Scope). scope.cancelled) w.scopes s no_scope refl cancelled in absurd (omega (arith, e, born)))
    cancelled

pub settled-open : (w : World) (t x : ℕ) (joiner : Joiner) (timed : Bool) → Settled w → Settled (open_scope w t (task_at w t).frame x joiner timed)
settled-open w t x joiner timed o =
    settled-later w (open_scope w t (task_at w t).frame x joiner timed) o (follow-open w t x (task_at w t).frame joiner timed o.caused) (opened_tasks w t x joiner timed) (opened_cancelled w t x joiner timed)

unjoined : (phase : Phase) → not (is_opened phase) ≡ false → is_joined phase ≡ false
unjoined Opened e = refl
unjoined _ e = cc

started_unless : (b : Bool) → b ≡ false → not b ≡ true
started_unless false e = refl
started_unless true e = cc

pub settled-more_tasks : (p : Program) (w : World) (t s g : ℕ) → Settled w → not (is_opened (scope_at w s).phase) ≡ false → Settled (more_tasks w (subtask_of p w (task_at w t).frame s g))
settled-more_tasks p w t s g o opened =
    record {
      caused = o.caused;
      joined = λ r u joined still.
          at_more (λ (task : Task). task.scope ≡ Some r → lives task ≡ false) w.tasks (subtask_of p w (task_at w t).frame s g) u no_task
          (λ e inside. let same : s ≡ r = cc in let never : is_joined (scope_at w r).phase ≡ false = rw (← same) (unjoined (scope_at w s).phase opened) in cc)
          (o.joined r u joined still);
      started = λ r u.
          at_more (λ (task : Task). task.scope ≡ Some r → (scope_at w r).cancelled ≡ false → task.started ≡ true) w.tasks (subtask_of p w (task_at w t).frame s g) u no_task
          (λ e inside still. let same : s ≡ r = cc in started_unless (scope_at w s).cancelled (rw same still))
          (o.started r u);
    }

follow-fork : (p : Program) (w : World) (t s g : ℕ) (h : Option ℕ) → AllCaused w → AllFollow (more_tasks w (subtask_of p w (task_at w t).frame s g)) (fork_task p w t (task_at w t).frame s g h).scopes
unfolding fork_task
follow-fork p w t s g h caused r born = record { cause = caused r born; joined = λ e still. inl e }

pub settled-fork : (p : Program) (w : World) (t s g : ℕ) (h : Option ℕ) → Settled w → lives (task_at w t) ≡ true → not (is_opened (scope_at w s).phase) ≡ false → Settled (fork_task p w t (task_at w t).frame s g h)
settled-fork p w t s g h o alive opened =
    let x : Task = subtask_of p w (task_at w t).frame s g in
    settled-kept (more_tasks w x) (fork_task p w t (task_at w t).frame s g h) (settled-more_tasks p w t s g o opened) (still-forker p w t s g h alive).kept (follow-fork p w t s g h o.caused)
