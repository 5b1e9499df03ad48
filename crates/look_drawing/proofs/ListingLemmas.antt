-- The cells of those that a column can show are all cells.
use Rattle.std.proofs.Common.{◌≡◌, ℕ, ◌+◌, ◌-◌, ◌<◌, List, [], ◌∷◌, ◌++◌, Bool, true, false, cond, not, ◌&&◌, refl, sym, ◌∙◌, ap, ap₂, arith, length}
use Rattle.std.specs.Prelude.{nat_lt}
use Rattle.std.specs.List.{All, flat_map, range_with_len}
use Rattle.std.proofs.lemmas.Bool.Decides.{nat_tests}
use Rattle.std.proofs.lemmas.Bool.{not-false}
use Rattle.sts_code.specs.Program.{Program}
use Rattle.sts_model.specs.declared.record.Scope.{Scope}
use Rattle.sts_model.specs.declared.record.Task.{Task}
use Rattle.sts_model.specs.Living.{is_closed, lives}
use Rattle.sts_model.specs.World.{World, scope_at, task_at}
use Rattle.look_drawing.specs.Brackets.{scope_cell, scope_cells}
use Rattle.look_drawing.specs.Lanes.{task_cell, task_cells}
use Rattle.look_drawing.specs.Present.{Follows, is_open, kept, present, shown}
use Rattle.look_drawing.proofs.Ranges.{kept_later, listed_below, listed_bytes}

-- ---- tasks

task_cells_are : (text : List ℕ) (p : Program) (before w : World) (x : ℕ) (tasks : List Task) (t : ℕ) → task_cells text p before w x tasks t ≡ flat_map (task_cell text p before w x) (range_with_len t (length tasks))
task_cells_are text p before w x [] t = refl
task_cells_are text p before w x (task ∷ tasks) t = ap (λ (bytes : List ℕ). task_cell text p before w x t ++ bytes) (task_cells_are text p before w x tasks (t + 1))

not_both : (b : Bool) (bytes : List ℕ) → cond (b && not b) bytes [] ≡ []
not_both true bytes = refl
not_both false bytes = refl

-- nothing is drawn of a task that doesn't live in the column before
no_task_cell : (text : List ℕ) (p : Program) (before w : World) (x t : ℕ) → Follows before w → t < length before.tasks → lives (task_at before t) ≡ false → task_cell text p before w x t ≡ []
no_task_cell text p before w x t h born dead =
    let same = h.resting t born dead in
    let was_born : nat_lt t (length before.tasks) ≡ true = grind (arith, nat_tests) in
    rw (was_born, same, dead) (not_both (task_at before t).flag _)

pub tasks_listed : (text : List ℕ) (p : Program) (before w : World) (x : ℕ) → Follows before w → flat_map (task_cell text p before w x) (shown before w).tasks ≡ task_cells text p before w x w.tasks 0
tasks_listed text p before w x h =
    listed_bytes (task_cell text p before w x) (λ t. lives (task_at before t)) (length before.tasks) (length w.tasks) h.tasks (λ t born dead. no_task_cell text p before w x t h born dead)
    ∙ sym (task_cells_are text p before w x w.tasks 0)

pub tasks_below : (before w : World) → Follows before w → All (λ t. t < length w.tasks) (shown before w).tasks
tasks_below before w h = listed_below (λ t. lives (task_at before t)) (length before.tasks) (length w.tasks) h.tasks

-- ---- scopes

scope_cells_are : (before w : World) (x : ℕ) (scopes : List Scope) (s : ℕ) → scope_cells before w x scopes s ≡ flat_map (scope_cell before w x) (range_with_len s (length scopes))
scope_cells_are before w x [] s = refl
scope_cells_are before w x (scope ∷ scopes) s = ap (λ (bytes : List ℕ). scope_cell before w x s ++ bytes) (scope_cells_are before w x scopes (s + 1))

-- nothing is drawn of a scope that is closed in the column before
no_scope_cell : (before w : World) (x s : ℕ) → Follows before w → s < length before.scopes → is_open (scope_at before s) ≡ false → scope_cell before w x s ≡ []
no_scope_cell before w x s h born closed =
    let was = not-false (is_closed (scope_at before s).phase) closed in
    let is = h.closed s born was in
    rw (was, is) refl

pub scopes_listed : (before w : World) (x : ℕ) → Follows before w → flat_map (scope_cell before w x) (shown before w).scopes ≡ scope_cells before w x w.scopes 0
scopes_listed before w x h =
    listed_bytes (scope_cell before w x) (λ s. is_open (scope_at before s)) (length before.scopes) (length w.scopes) h.scopes (λ s born closed. no_scope_cell before w x s h born closed)
    ∙ sym (scope_cells_are before w x w.scopes 0)

pub scopes_below : (before w : World) → Follows before w → All (λ s. s < length w.scopes) (shown before w).scopes
scopes_below before w h = listed_below (λ s. is_open (scope_at before s)) (length before.scopes) (length w.scopes) h.scopes

-- ---- from one column to the next

pub kept_shown : (before w : World) → Follows before w → kept (shown before w) w ≡ present w
kept_shown before w h =
    ap₂ (λ (tasks scopes : List ℕ). record { tasks = tasks; scopes = scopes })
    (kept_later (λ t. lives (task_at before t)) (λ t. lives (task_at w t)) (length before.tasks) (length w.tasks) h.tasks (λ t born dead. ap lives (h.resting t born dead) ∙ dead))
    (kept_later (λ s. is_open (scope_at before s)) (λ s. is_open (scope_at w s)) (length before.scopes) (length w.scopes) h.scopes
    (λ s born closed. ap not (h.closed s born (not-false (is_closed (scope_at before s).phase) closed))))

-- nothing follows in the first column
pub follows-refl : (w : World) → Follows w w
follows-refl w = record { tasks = omega arith; scopes = omega arith; resting = λ t born dead. refl; closed = λ s born is. is }
