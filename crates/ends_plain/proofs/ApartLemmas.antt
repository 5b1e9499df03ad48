-- A task's frame is its own. With another frame of one task, the state answers the same about other
-- tasks and scopes, and changes of them leave that frame there.
use Rattle.std.proofs.Common.{◌≡◌, ℕ, zero, suc, ◌+◌, ◌<◌, List, [], ◌∷◌, ◌++◌, Bool, true, false, Option, Some, None, refl, sym, ◌∙◌, ap, length, arith}
use Rattle.std.proofs.Common.{get_or, set, cond, ◌||◌, count_by, length-set, get_or-set_other}
use Rattle.std.specs.List.{list_any}
use Rattle.std.specs.Prelude.{◌-◌}
use Rattle.std.proofs.lemmas.List.Sums.{sum_by-cons}
use Rattle.sts_code.specs.declared.instr.Kind.{Kind}
use Rattle.sts_code.specs.declared.instr.Kind.TheVariants.{S, F, U}
use Rattle.sts_model.specs.declared.record.Frame.{Frame}
use Rattle.sts_model.specs.declared.record.Scope.{Scope}
use Rattle.sts_model.specs.declared.record.Slot.{Slot}
use Rattle.sts_model.specs.declared.record.Slot.TheVariants.{Empty, Own, Lent, Sub}
use Rattle.sts_model.specs.declared.record.Task.{Task}
use Rattle.sts_model.specs.World.{World, task_at, scope_at, no_task, with_task, with_scope, with_frame}
use Rattle.sts_model.specs.Living.{is_in, is_subtask, is_living_subtask, any_lives, subtask_count, parent, scope_of, sub_state, completion_of}
use Rattle.sts_model.specs.Cancelling.{raise, raised, marked, cancel}
use Rattle.sts_model.specs.Environment.{environment_of, own_bindings}
use Rattle.sts_model.specs.Standing.{standing_tasks, is_standing_task, stands_in}
use Rattle.sts_model.specs.Effect.{tally, is_of, cleared}

-- ---- lists of tasks

-- the tasks with this frame in place of one task's
framed : List Task → ℕ → Frame → List Task
framed xs t g = set xs t (record (get_or xs t no_task) { frame = g })

-- whether a test passes does not depend on the frame
count_framed : (a b : Task → Bool) (g : Frame) → ((x : Task) → a (record x { frame = g }) ≡ b x) → ((x : Task) → a x ≡ b x) → (xs : List Task) (t : ℕ) → count_by a (framed xs t g) ≡ count_by b xs
unfolding framed
count_framed a b g here there [] t = refl
count_framed a b g here there (x ∷ xs) zero =
    sum_by-cons (λ z. cond (a z) 1 0) (record x { frame = g }) xs ∙ ap (λ c. cond c 1 0 + count_by a xs) (here x) ∙ ap (λ n. cond (b x) 1 0 + n) (others xs) ∙ sym (sum_by-cons (λ z. cond (b z) 1 0) x xs)
  where
    others : (ys : List Task) → count_by a ys ≡ count_by b ys
    others [] = refl
    others (y ∷ ys) = sum_by-cons (λ z. cond (a z) 1 0) y ys ∙ ap (λ c. cond c 1 0 + count_by a ys) (there y) ∙ ap (λ n. cond (b y) 1 0 + n) (others ys) ∙ sym (sum_by-cons (λ z. cond (b z) 1 0) y ys)
count_framed a b g here there (x ∷ xs) (suc t) =
    sum_by-cons (λ z. cond (a z) 1 0) x (framed xs t g) ∙ ap (λ c. cond c 1 0 + count_by a (framed xs t g)) (there x) ∙ ap (λ n. cond (b x) 1 0 + n) (count_framed a b g here there xs t) ∙ sym (sum_by-cons (λ z. cond (b z) 1 0) x xs)

any_framed : (a : Task → Bool) (g : Frame) → ((x : Task) → a (record x { frame = g }) ≡ a x) → (xs : List Task) (t : ℕ) → list_any a (framed xs t g) ≡ list_any a xs
unfolding framed
any_framed a g here [] t = refl
any_framed a g here (x ∷ xs) zero = ap (λ c. c || list_any a xs) (here x)
any_framed a g here (x ∷ xs) (suc t) = ap (λ c. a x || c) (any_framed a g here xs t)

-- a value of a task that does not depend on its frame
value_framed : {X : Type 0} (read : Task → X) (g : Frame) → ((x : Task) → read (record x { frame = g }) ≡ read x) → (xs : List Task) (t u : ℕ) → read (get_or (framed xs t g) u no_task) ≡ read (get_or xs u no_task)
unfolding framed
value_framed read g here [] t u = refl
value_framed read g here (x ∷ xs) zero zero = here x
value_framed read g here (x ∷ xs) zero (suc u) = refl
value_framed read g here (x ∷ xs) (suc t) zero = refl
value_framed read g here (x ∷ xs) (suc t) (suc u) = value_framed read g here xs t u

-- another task is changed
set_framed : (g : Frame) (y : Task) (xs : List Task) (t u : ℕ) → (u ≡ t → ⊥) → set (framed xs t g) u y ≡ framed (set xs u y) t g
unfolding framed
set_framed g y [] t u apart = refl
set_framed g y (x ∷ xs) zero zero apart = absurd (apart refl)
set_framed g y (x ∷ xs) zero (suc u) apart = refl
set_framed g y (x ∷ xs) (suc t) zero apart = refl
set_framed g y (x ∷ xs) (suc t) (suc u) apart = ap (λ l. x ∷ l) (set_framed g y xs t u (λ e. apart (ap suc e)))

-- a flag too, also that of the same task
flag_framed : (g : Frame) (xs : List Task) (t u : ℕ) → set (framed xs t g) u (record (get_or (framed xs t g) u no_task) { flag = true }) ≡ framed (set xs u (record (get_or xs u no_task) { flag = true })) t g
unfolding framed
flag_framed g [] t u = refl
flag_framed g (x ∷ xs) zero zero = refl
flag_framed g (x ∷ xs) zero (suc u) = refl
flag_framed g (x ∷ xs) (suc t) zero = refl
flag_framed g (x ∷ xs) (suc t) (suc u) = ap (λ l. x ∷ l) (flag_framed g xs t u)

more_framed : (g : Frame) (y : Task) (xs : List Task) (t : ℕ) → t < length xs → framed xs t g ++ y ∷ [] ≡ framed (xs ++ y ∷ []) t g
unfolding framed
more_framed g y [] t less = absurd (omega arith)
more_framed g y (x ∷ xs) zero less = refl
more_framed g y (x ∷ xs) (suc t) less = ap (λ l. x ∷ l) (more_framed g y xs t (omega (arith, less)))

raise_frame : (s : ℕ) (x : Task) (g : Frame) → raise s (record x { frame = g }) ≡ record (raise s x) { frame = g }
raise_frame s x g = by (is_living_subtask s x)
  where
    by : (b : Bool) → cond b (record (record x { frame = g }) { flag = true }) (record x { frame = g }) ≡ record (cond b (record x { flag = true }) x) { frame = g }
    by true = refl
    by false = refl

raised_framed : (s : ℕ) (g : Frame) (xs : List Task) (t : ℕ) → raised s (framed xs t g) ≡ framed (raised s xs) t g
unfolding framed
raised_framed s g [] t = refl
raised_framed s g (x ∷ xs) zero = ap (λ y. y ∷ raised s xs) (raise_frame s x g)
raised_framed s g (x ∷ xs) (suc t) = ap (λ l. raise s x ∷ l) (raised_framed s g xs t)

-- ---- what is read

-- another task
pub task_apart : (w : World) (t : ℕ) (g : Frame) (u : ℕ) → (u ≡ t → ⊥) → task_at (with_frame w t g) u ≡ task_at w u
task_apart w t g u apart = get_or-set_other w.tasks t u (record (task_at w t) { frame = g }) no_task apart

pub value_apart : {X : Type 0} (read : Task → X) (w : World) (t : ℕ) (g : Frame) (u : ℕ) → ((x : Task) → read (record x { frame = g }) ≡ read x) → read (task_at (with_frame w t g) u) ≡ read (task_at w u)
unfolding framed
value_apart read w t g u here = value_framed read g here w.tasks t u

pub parent_apart : (w : World) (t : ℕ) (g : Frame) (o : Option ℕ) → parent (with_frame w t g) o ≡ parent w o
parent_apart w t g None = refl
parent_apart w t g (Some s) = refl

pub scope_of_apart : (w : World) (t : ℕ) (g : Frame) (u : ℕ) → scope_of (with_frame w t g) u ≡ scope_of w u
scope_of_apart w t g u = parent_apart w t g (task_at (with_frame w t g) u).scope ∙ value_apart (λ (x : Task). parent w x.scope) w t g u (λ x. refl)

pub sub_state_apart : (w : World) (t : ℕ) (g : Frame) (u : ℕ) → sub_state (with_frame w t g) u ≡ sub_state w u
sub_state_apart w t g u = ap (λ (x : Scope). completion_of x.completions u) (scope_of_apart w t g u)

pub any_lives_apart : (w : World) (t : ℕ) (g : Frame) (s : ℕ) → any_lives (with_frame w t g) s ≡ any_lives w s
unfolding framed
any_lives_apart w t g s = any_framed (is_living_subtask s) g (λ x. refl) w.tasks t

pub subtask_count_apart : (w : World) (t : ℕ) (g : Frame) (s : ℕ) → subtask_count (with_frame w t g) s ≡ subtask_count w s
unfolding framed
subtask_count_apart w t g s = count_framed (is_subtask s) (is_subtask s) g (λ x. refl) (λ x. refl) w.tasks t

stands_in_apart : (w : World) (t : ℕ) (g : Frame) (o : Option ℕ) → stands_in (with_frame w t g) o ≡ stands_in w o
stands_in_apart w t g None = refl
stands_in_apart w t g (Some s) = refl

pub standing_tasks_apart : (w : World) (t : ℕ) (g : Frame) → standing_tasks (with_frame w t g) ≡ standing_tasks w
unfolding framed
standing_tasks_apart w t g = count_framed (is_standing_task (with_frame w t g)) (is_standing_task w) g (λ x. stands_in_apart w t g x.scope) (λ x. stands_in_apart w t g x.scope) w.tasks t

pub tasks_born_apart : (w : World) (t : ℕ) (g : Frame) → length (with_frame w t g).tasks ≡ length w.tasks
tasks_born_apart w t g = length-set w.tasks t (record (task_at w t) { frame = g })

-- what another task reads of scoped values
pub environment_apart : (w : World) (t : ℕ) (g : Frame) (u : ℕ) → (u ≡ t → ⊥) → environment_of (task_at (with_frame w t g) u) (with_frame w t g) ≡ environment_of (task_at w u) w
environment_apart w t g u apart =
    ap (λ (x : Task). environment_of x (with_frame w t g)) (task_apart w t g u apart)
    ∙ ap (λ (x : Scope). own_bindings (task_at w u) ++ x.environment) (parent_apart w t g (task_at w u).scope)

pub tally_apart : (w : World) (t : ℕ) (g : Frame) (s : ℕ) (k : Kind) → tally (with_frame w t g) s k ≡ tally w s k
tally_apart w t g s S = refl
tally_apart w t g s F = refl
tally_apart w t g s U = ap (λ n. n - length (scope_at w s).completions) (subtask_count_apart w t g s)

is_of_apart : (w : World) (t : ℕ) (g : Frame) (s : ℕ) (x : Slot) → is_of (with_frame w t g) s x ≡ is_of w s x
is_of_apart w t g s Empty = refl
is_of_apart w t g s (Own r) = refl
is_of_apart w t g s (Lent r) = refl
is_of_apart w t g s (Sub u) = value_apart (λ (x : Task). is_in s x.scope) w t g u (λ x. refl)

pub cleared_apart : (w : World) (t : ℕ) (g : Frame) (s : ℕ) (xs : List Slot) → cleared (with_frame w t g) s xs ≡ cleared w s xs
cleared_apart w t g s [] = refl
cleared_apart w t g s (x ∷ xs) =
    ap (λ b. cond b Empty x ∷ cleared (with_frame w t g) s xs) (is_of_apart w t g s x)
    ∙ ap (λ l. cond (is_of w s x) Empty x ∷ l) (cleared_apart w t g s xs)

-- ---- what is written

pub with_task_apart : (w : World) (t : ℕ) (g : Frame) (u : ℕ) (x : Task) → (u ≡ t → ⊥) → with_task (with_frame w t g) u x ≡ with_frame (with_task w u x) t g
unfolding framed
with_task_apart w t g u x apart = ap (λ l. record w { tasks = l }) (set_framed g x w.tasks t u apart)

pub flag_apart : (w : World) (t : ℕ) (g : Frame) (u : ℕ) → with_task (with_frame w t g) u (record (task_at (with_frame w t g) u) { flag = true }) ≡ with_frame (with_task w u (record (task_at w u) { flag = true })) t g
unfolding framed
flag_apart w t g u = ap (λ l. record w { tasks = l }) (flag_framed g w.tasks t u)

pub more_apart : (w : World) (t : ℕ) (g : Frame) (x : Task) → t < length w.tasks → record (with_frame w t g) { tasks = (with_frame w t g).tasks ++ x ∷ [] } ≡ with_frame (record w { tasks = w.tasks ++ x ∷ [] }) t g
unfolding framed
more_apart w t g x born = ap (λ l. record w { tasks = l }) (more_framed g x w.tasks t born)

marked_apart : (w : World) (t : ℕ) (g : Frame) (s : ℕ) → marked (with_frame w t g) s ≡ with_frame (marked w s) t g
unfolding framed
marked_apart w t g s = ap (λ l. record (with_scope w s (record (scope_at w s) { cancelled = true })) { tasks = l }) (raised_framed s g w.tasks t)

pub cancel_apart : (w : World) (t : ℕ) (g : Frame) (s : ℕ) → cancel (with_frame w t g) s ≡ with_frame (cancel w s) t g
cancel_apart w t g s = by (scope_at w s).cancelled
  where
    by : (b : Bool) → cond b (with_frame w t g) (marked (with_frame w t g) s) ≡ with_frame (cond b w (marked w s)) t g
    by true = refl
    by false = marked_apart w t g s
