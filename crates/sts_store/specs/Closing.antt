-- The parts that the view doesn't show, after a scope is closed, and which slots are emptied (this
-- project's own).
use Rattle.std.specs.Prelude.{ℕ, ◌+◌, ◌==◌, List, [], ◌∷◌, map, Bool, false, Option, Some, None}
use Rattle.std.specs.Prelude.{if◌then◌else◌, slice_index_or}
use Rattle.sts_env.specs.declared.env.Env.{Env}
use Rattle.sts_tree.specs.Forest.{Forest}
use Rattle.sts_model.specs.declared.event.Stand.{Stand}
use Rattle.sts_model.specs.declared.event.Stand.TheVariants.{Free, AtClose}
use Rattle.sts_model.specs.declared.record.Slot.{Slot}
use Rattle.sts_model.specs.declared.record.Slot.TheVariants.{Empty, Own, Sub}
use Rattle.sts_model.specs.Living.{is_in}
use Rattle.sts_model.specs.Live.{Live, LiveTask}
use Rattle.laws_live.specs.Reading.{live_any_lives, live_count}
use Rattle.sts_store.specs.Parts.{Unseen, stood_unseen}

-- a hole for a subtask of s
abbrev pub stand_left : ℕ → Option LiveTask → Option Stand → Option Stand
stand_left s None stand = stand
stand_left s (Some task) stand = if is_in s task.scope then None else stand

-- the recorded scopes of tasks, with a hole for each subtask of s
abbrev pub stands_left : ℕ → List (Option LiveTask) → List (Option Stand) → List (Option Stand)
stands_left s [] stands = stands
stands_left s (x ∷ xs) [] = []
stands_left s (x ∷ xs) (stand ∷ stands) = stand_left s x stand ∷ stands_left s xs stands

-- neither the scope nor its subtasks count any longer, and their room comes back
abbrev pub gone_unseen : Live → Unseen → ℕ → Unseen
gone_unseen v u s =
    record u {
      stands = stands_left s v.tasks u.stands;
      task_room = u.task_room + live_count v s;
      scope_room = u.scope_room + 1;
    }

-- a step of a close: the owner waits while a subtask lives, and otherwise goes on
abbrev pub close_unseen : Live → Unseen → ℕ → ℕ → Unseen
close_unseen v u t s =
    if live_any_lives v s
    then stood_unseen u t (AtClose s)
    else gone_unseen v (stood_unseen u t Free) s

-- ---- slots, by the records that stand

-- the scope that a task is a subtask of
abbrev pub home_in : Forest Env → ℕ → Option ℕ
home_in f t = elim (slice_index_or f.tasks t None) [ None ↦ None | Some x ↦ x.scope ]

-- does a slot name the scope or one of its subtasks?
abbrev pub is_slot_of : Forest Env → ℕ → Slot → Bool
is_slot_of f s (Own r) = r == s
is_slot_of f s (Sub t) = is_in s (home_in f t)
is_slot_of f s _ = false

abbrev pub slots_cleared : Forest Env → ℕ → List Slot → List Slot
slots_cleared f s slots = map (λ x. if is_slot_of f s x then Empty else x) slots
