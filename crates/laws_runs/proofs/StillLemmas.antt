-- Facts that an effect keeps if no task is born or ends and no scope opens.
use Rattle.std.proofs.Common.{◌≤◌, ◌≡◌, ℕ, Bool, true, false, Some, refl, ◌∙◌, cond}
use Rattle.sts_model.specs.declared.event.Phase.{Phase}
use Rattle.sts_model.specs.declared.record.Slot.TheVariants.{Own}
use Rattle.sts_model.specs.declared.record.Frame.{Frame}
use Rattle.sts_model.specs.declared.record.Task.{Task}
use Rattle.sts_model.specs.declared.record.Scope.{Scope}
use Rattle.sts_model.specs.World.{World, task_at, scope_at, no_task, no_scope, with_task, with_scope, with_frame}
use Rattle.std.specs.List.{list_any}
use Rattle.sts_model.specs.Living.{lives, is_closed}
use Rattle.sts_model.specs.Cancelling.{marked, cancel}
use Rattle.sts_model.specs.Misuse.{slot, is_entry_of}
use Rattle.sts_model.specs.Effect.{with_phase}
use Rattle.laws_runs.specs.Later.{stage, LaterScope}
use Rattle.laws_runs.proofs.ListLemmas.{at_set}
use Rattle.laws_runs.proofs.LaterLemmas.{completes-refl}
use Rattle.laws_runs.proofs.KeptLemmas.{Kept, kept-refl, kept-trans, kept-task, kept-scope, kept-cancel, at_raised}

-- like `Kept`; also no task ends, and no joiner is told
pub record Still (w v : World) : Type 0 where
  pub kept : Kept w v
  pub outcome : (u : ℕ) → (task_at v u).outcome ≡ (task_at w u).outcome
  pub completions : (s : ℕ) → (scope_at v s).completions ≡ (scope_at w s).completions

pub still-refl : (w : World) → Still w w
still-refl w = record { kept = kept-refl w; outcome = λ u. refl; completions = λ s. refl }

pub still-trans : (w v x : World) → Still w v → Still v x → Still w x
still-trans w v x h k =
    record {
      kept = kept-trans w v x h.kept k.kept;
      outcome = λ u. k.outcome u ∙ h.outcome u;
      completions = λ s. k.completions s ∙ h.completions s;
    }

pub still-cond : (w : World) (b : Bool) (x y : World) → (b ≡ true → Still w x) → (b ≡ false → Still w y) → Still w (cond b x y)
still-cond w true x y h k = h refl
still-cond w false x y h k = k refl

-- ---- the task that steps

-- the frame owns no more, and has every entry of a scope that isn't closed
pub record Fits (w : World) (f g : Frame) : Type 0 where
  pub own : (i s : ℕ) → slot g i ≡ Own s → slot f i ≡ Own s
  pub entries : (s : ℕ) → is_closed (scope_at w s).phase ≡ false → list_any (is_entry_of s) f.entries ≡ true → list_any (is_entry_of s) g.entries ≡ true

pub still-task : (w : World) (t : ℕ) (f : Frame) (flag : Bool) → Fits w (task_at w t).frame f → Still w (with_task w t (record (task_at w t) { frame = f; flag = flag }))
still-task w t f flag fits =
    let x : Task = record (task_at w t) { frame = f; flag = flag } in
    record {
      kept =
          kept-task w t x (record { same = record { started = refl; scope = refl }; outcome = λ end e. e }) fits.own
          (λ s still h. record { alive = h.alive; entry = fits.entries s still h.entry });
      outcome = λ u. at_set (λ (task : Task). task.outcome ≡ (task_at w u).outcome) w.tasks t u x no_task (λ e. rw e refl) refl;
      completions = λ s. refl;
    }

pub still-frame : (w : World) (t : ℕ) (f : Frame) → Fits w (task_at w t).frame f → Still w (with_frame w t f)
still-frame w t f fits = still-task w t f (task_at w t).flag fits

-- ---- scopes

pub still-scope : (w : World) (s : ℕ) (x : Scope) → LaterScope (scope_at w s) x → x.completions ≡ (scope_at w s).completions → (is_closed (scope_at w s).phase ≡ false → is_closed x.phase ≡ true → (u : ℕ) → (task_at w u).scope ≡ Some s → lives (task_at w u) ≡ false) → Still w (with_scope w s x)
still-scope w s x later same emptied =
    record {
      kept = kept-scope w s x later emptied;
      outcome = λ u. refl;
      completions = λ r. at_set (λ (scope : Scope). scope.completions ≡ (scope_at w r).completions) w.scopes s r x no_scope (λ e. rw e same) refl;
    }

-- a phase that does not reopen a closed scope, and closes a scope only if no task in it lives
pub still-phase : (w : World) (s : ℕ) (phase : Phase) → stage (scope_at w s).phase ≤ stage phase → (is_closed (scope_at w s).phase ≡ true → is_closed phase ≡ true) → (is_closed (scope_at w s).phase ≡ false → is_closed phase ≡ true → (u : ℕ) → (task_at w u).scope ≡ Some s → lives (task_at w u) ≡ false) → Still w (with_phase w s phase)
still-phase w s phase forward closed emptied =
    let c = completes-refl (scope_at w s) in
    still-scope w s (record (scope_at w s) { phase = phase })
    (record {
      same = record { owner = refl; joiner = refl; timed = refl; environment = refl };
      marks = record { closed = closed; cancelled = λ e. e; expired = λ e. e };
      moves = record { forward = forward; timely = λ e. refl };
      completions = record { grow = c.grow; stop = λ e. refl };
    })
    refl
    emptied

pub still-cancel : (w : World) (s : ℕ) → Still w (cancel w s)
still-cancel w s =
    record {
      kept = kept-cancel w s;
      outcome = λ u. outcome u (scope_at w s).cancelled;
      completions = λ r. completions r (scope_at w s).cancelled;
    }
  where
    outcome : (u : ℕ) (b : Bool) → (task_at (cond b w (marked w s)) u).outcome ≡ (task_at w u).outcome
    outcome u true = refl
    outcome u false = at_raised (λ (task : Task). task.outcome ≡ (task_at w u).outcome) s w.tasks u refl refl

    completions : (r : ℕ) (b : Bool) → (scope_at (cond b w (marked w s)) r).completions ≡ (scope_at w r).completions
    completions r true = refl
    completions r false =
        at_set (λ (scope : Scope). scope.completions ≡ (scope_at w r).completions) w.scopes s r (record (scope_at w s) { cancelled = true }) no_scope (λ e. rw e refl) refl
