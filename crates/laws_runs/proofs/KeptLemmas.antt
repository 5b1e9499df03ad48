-- The facts that every effect except those of `open` and `fork` keeps, and the building blocks.
use Rattle.std.proofs.Common.{◌≡◌, ℕ, zero, suc, List, [], ◌∷◌, Bool, true, false, Option, Some, None, refl, ◌∙◌, length, arith, get_or, cond, length-set}
use Rattle.std.proofs.lemmas.List.{length-map}
use Rattle.std.specs.List.{list_any}
use Rattle.std.proofs.Math.Bool.{and-false}
use Rattle.sts_model.specs.declared.event.End.{End}
use Rattle.sts_model.specs.declared.record.Slot.TheVariants.{Own}
use Rattle.sts_model.specs.declared.record.Task.{Task}
use Rattle.sts_model.specs.declared.record.Scope.{Scope}
use Rattle.sts_model.specs.World.{World, task_at, scope_at, no_task, no_scope, with_task, with_scope}
use Rattle.sts_model.specs.Living.{lives, is_living_subtask, is_closed}
use Rattle.sts_model.specs.Cancelling.{raise, raised, marked, cancel}
use Rattle.sts_model.specs.Misuse.{slot, is_entry_of}
use Rattle.laws_runs.specs.Later.{KeepsMarks, LaterTask, LaterScope, Later}
use Rattle.laws_runs.proofs.ListLemmas.{at_set}
use Rattle.laws_runs.proofs.LaterLemmas.{later_task-refl, later_task-trans, later_scope-refl, later_scope-trans, completes-refl, moves_on-same, none_fresh}

-- the task lives, and the scope is an entry of its frame
pub record Holds (task : Task) (s : ℕ) : Type 0 where
  pub alive : lives task ≡ true
  pub entry : list_any (is_entry_of s) task.frame.entries ≡ true

-- nothing was born; no frame owns more; a task that held a scope holds it until it is closed; if a
-- scope is closed, no task in it lives
pub record Kept (w v : World) : Type 0 where
  pub tasks : length v.tasks ≡ length w.tasks
  pub scopes : length v.scopes ≡ length w.scopes
  pub task : (u : ℕ) → LaterTask (task_at w u) (task_at v u)
  pub scope : (s : ℕ) → LaterScope (scope_at w s) (scope_at v s)
  pub own : (u i s : ℕ) → slot (task_at v u).frame i ≡ Own s → slot (task_at w u).frame i ≡ Own s
  pub held : (u s : ℕ) → is_closed (scope_at v s).phase ≡ false → Holds (task_at w u) s → Holds (task_at v u) s
  pub emptied : (u s : ℕ) → (task_at w u).scope ≡ Some s → is_closed (scope_at w s).phase ≡ false → is_closed (scope_at v s).phase ≡ true → lives (task_at v u) ≡ false

pub kept-refl : (w : World) → Kept w w
kept-refl w =
    record {
      tasks = refl;
      scopes = refl;
      task = λ u. later_task-refl (task_at w u);
      scope = λ s. later_scope-refl (scope_at w s);
      own = λ u i s e. e;
      held = λ u s closed h. h;
      emptied = λ u s inside before after. cc;
    }

-- what doesn't live doesn't live later
pub dead_later : (x y : Task) → LaterTask x y → lives x ≡ false → lives y ≡ false
dead_later x y h e = by x.started x.outcome y.started y.outcome h.same.started h.outcome e
  where
    by : (a : Bool) (o : Option End) (b : Bool) (q : Option End) → b ≡ a → ((end : End) → o ≡ Some end → q ≡ Some end) → lives (record y { started = a; outcome = o }) ≡ false → lives (record y { started = b; outcome = q }) ≡ false
    by a (Some end) b q same ends e = rw (ends end refl) (and-false b)
    by true None b q same ends e = cc
    by false None b q same ends e = rw same refl

-- a scope that isn't closed later wasn't before
pub open_before : (x y : Scope) → KeepsMarks x y → is_closed y.phase ≡ false → is_closed x.phase ≡ false
open_before x y m e = by (is_closed x.phase) refl
  where
    by : (b : Bool) → is_closed x.phase ≡ b → b ≡ false
    by false h = refl
    by true h = let k = m.closed h in cc

pub kept-trans : (w v x : World) → Kept w v → Kept v x → Kept w x
kept-trans w v x h k =
    record {
      tasks = k.tasks ∙ h.tasks;
      scopes = k.scopes ∙ h.scopes;
      task = λ u. later_task-trans (task_at w u) (task_at v u) (task_at x u) (h.task u) (k.task u);
      scope = λ s. later_scope-trans (scope_at w s) (scope_at v s) (scope_at x s) (h.scope s) (k.scope s);
      own = λ u i s e. h.own u i s (k.own u i s e);
      held = λ u s still e. k.held u s still (h.held u s (open_before (scope_at v s) (scope_at x s) (k.scope s).marks still) e);
      emptied = λ u s inside before after. by u s inside before after (is_closed (scope_at v s).phase) refl;
    }
  where
    by : (u s : ℕ) → (task_at w u).scope ≡ Some s → is_closed (scope_at w s).phase ≡ false → is_closed (scope_at x s).phase ≡ true → (b : Bool) → is_closed (scope_at v s).phase ≡ b → lives (task_at x u) ≡ false
    by u s inside before after true e = dead_later (task_at v u) (task_at x u) (k.task u) (h.emptied u s inside before e)
    by u s inside before after false e = k.emptied u s ((h.task u).same.scope ∙ inside) e after

-- ---- building blocks

pub kept-task : (w : World) (t : ℕ) (x : Task) → LaterTask (task_at w t) x → ((i s : ℕ) → slot x.frame i ≡ Own s → slot (task_at w t).frame i ≡ Own s) → ((s : ℕ) → is_closed (scope_at w s).phase ≡ false → Holds (task_at w t) s → Holds x s) → Kept w (with_task w t x)
kept-task w t x later own held =
    record {
      tasks = length-set w.tasks t x;
      scopes = refl;
      task = λ u. at_set (λ (task : Task). LaterTask (task_at w u) task) w.tasks t u x no_task (λ e. rw e later) (later_task-refl (task_at w u));
      scope = λ s. later_scope-refl (scope_at w s);
      own = λ u. at_set (λ (task : Task). (i s : ℕ) → slot task.frame i ≡ Own s → slot (task_at w u).frame i ≡ Own s) w.tasks t u x no_task (λ e. rw e own) (λ i s e. e);
      held = λ u s still. at_set (λ (task : Task). Holds (task_at w u) s → Holds task s) w.tasks t u x no_task (λ e. rw e (held s still)) (λ h. h);
      emptied = λ u s inside before after. cc;
    }

pub kept-scope : (w : World) (s : ℕ) (x : Scope) → LaterScope (scope_at w s) x → (is_closed (scope_at w s).phase ≡ false → is_closed x.phase ≡ true → (u : ℕ) → (task_at w u).scope ≡ Some s → lives (task_at w u) ≡ false) → Kept w (with_scope w s x)
kept-scope w s x later emptied =
    record {
      tasks = refl;
      scopes = length-set w.scopes s x;
      task = λ u. later_task-refl (task_at w u);
      scope = λ r. at_set (λ (scope : Scope). LaterScope (scope_at w r) scope) w.scopes s r x no_scope (λ e. rw e later) (later_scope-refl (scope_at w r));
      own = λ u i r e. e;
      held = λ u r still h. h;
      emptied = λ u r inside before.
          at_set (λ (scope : Scope). is_closed scope.phase ≡ true → lives (task_at w u) ≡ false) w.scopes s r x no_scope
          (λ e after. emptied (rw (← e) before) after u (rw (← e) inside))
          (λ after. cc);
    }

pub kept-cond : (w : World) (b : Bool) (x y : World) → (b ≡ true → Kept w x) → (b ≡ false → Kept w y) → Kept w (cond b x y)
kept-cond w true x y h k = h refl
kept-cond w false x y h k = k refl

-- ---- flags and cancellation

one_raised : (P : Task → Type 0) (b : Bool) (task : Task) → P (record task { flag = true }) → P task → P (cond b (record task { flag = true }) task)
one_raised P true task h k = h
one_raised P false task h k = k

-- what holds of a task whatever its flag
pub at_raised : (P : Task → Type 0) (s : ℕ) (xs : List Task) (u : ℕ) → P (record (get_or xs u no_task) { flag = true }) → P (get_or xs u no_task) → P (get_or (raised s xs) u no_task)
at_raised P s [] u h k = k
at_raised P s (x ∷ xs) zero h k = one_raised P (is_living_subtask s x) x h k
at_raised P s (x ∷ xs) (suc u) h k = at_raised P s xs u h k

-- flags alone
pub kept-raised : (w : World) (s : ℕ) → Kept w (record w { tasks = raised s w.tasks })
kept-raised w s =
    record {
      tasks = length-map w.tasks (raise s);
      scopes = refl;
      task = λ u. let same = later_task-refl (task_at w u) in at_raised (λ (task : Task). LaterTask (task_at w u) task) s w.tasks u (record { same = record { started = refl; scope = refl }; outcome = λ end e. e }) same;
      scope = λ r. later_scope-refl (scope_at w r);
      own = λ u. at_raised (λ (task : Task). (i r : ℕ) → slot task.frame i ≡ Own r → slot (task_at w u).frame i ≡ Own r) s w.tasks u (λ i r e. e) (λ i r e. e);
      held = λ u r still. at_raised (λ (task : Task). Holds (task_at w u) r → Holds task r) s w.tasks u (λ h. record { alive = h.alive; entry = h.entry }) (λ h. h);
      emptied = λ u r inside before after. cc;
    }

pub kept-cancel : (w : World) (s : ℕ) → Kept w (cancel w s)
kept-cancel w s =
    kept-cond w (scope_at w s).cancelled w (marked w s) (λ e. kept-refl w)
    (λ e. kept-trans w (record w { tasks = raised s w.tasks }) (marked w s) (kept-raised w s)
    (kept-scope (record w { tasks = raised s w.tasks }) s (record (scope_at w s) { cancelled = true })
    (record { same = record { owner = refl; joiner = refl; timed = refl; environment = refl }; marks = record { closed = λ h. h; cancelled = λ h. refl; expired = λ h. h }; moves = moves_on-same (scope_at w s) (record (scope_at w s) { cancelled = true }) refl refl; completions = let c = completes-refl (scope_at w s) in record { grow = c.grow; stop = λ h. refl } })
    (λ before after. cc)))

-- a later state
pub kept-later : (w v : World) → Kept w v → Later w v
kept-later w v k =
    let tasks = k.tasks in
    let scopes = k.scopes in
    record {
      tasks = omega (arith, tasks);
      scopes = omega (arith, scopes);
      task = λ t less. k.task t;
      scope = λ s less. k.scope s;
      fresh = none_fresh w v (omega (arith, tasks));
    }
