-- The places of the tasks of a run: each living task is at a point of a control path of its
-- function (this project's own).
use Rattle.std.specs.Prelude.{◌≡◌, ℕ, ◌⊎◌, ◌<◌, List, [], ◌∷◌, length, take, sum_by, true, false}
use Rattle.std.specs.Prelude.{None}
use Rattle.sts_code.specs.Checks.{program_fault}
use Rattle.sts_code.specs.Program.{Program}
use Rattle.sts_rules.specs.declared.budget.Budgets.{Budgets}
use Rattle.sts_model.specs.declared.event.Event.{Event}
use Rattle.sts_model.specs.declared.record.Entry.{Entry}
use Rattle.sts_model.specs.declared.record.Entry.TheVariants as entry
use Rattle.sts_model.specs.declared.record.Frame.{Frame}
use Rattle.sts_model.specs.declared.record.Loop.{Loop}
use Rattle.sts_model.specs.declared.record.Slot.{Slot}
use Rattle.sts_model.specs.declared.record.Slot.TheVariants.{Own}
use Rattle.sts_model.specs.declared.record.Task.{Task}
use Rattle.sts_model.specs.World.{World, task_at, code}
use Rattle.sts_model.specs.Living.{lives}
use Rattle.sts_model.specs.Misuse.{slot}
use Rattle.sts_rules.specs.ControlPaths.{Skeleton, OpenEntry, OpenScope, OpenBinding, Loops, Comes}
use Rattle.sts_rules.specs.Budget.{budget_at, skeleton}
use Rattle.sts_model.specs.Run.{after}
use Rattle.laws_runs.specs.Runs.{In}
use Rattle.laws_accepted.specs.Costs.{Peak, subtask_shares}

-- the open loops of a frame
abbrev pub loops_of : List Loop → Loops
loops_of [] = []
loops_of (l ∷ ls) = (l.at, l.left) ∷ loops_of ls

-- what control paths see of a frame's function
abbrev pub skeleton_of : Program → List Budgets → Frame → Skeleton
skeleton_of p budgets f = skeleton (take f.function budgets) (code p f)

-- An entry of a frame matches one of a control path. Both are bindings, or both are scopes: the
-- slot owns the scope, and its subtasks have the shares of the functions that were forked in it.
abbrev pub Matches : List Budgets → List Budgets → List Task → (ℕ → Slot) → Entry → OpenEntry
    → Type 0
Matches budgets earlier tasks own (entry.Scope s) (OpenScope x forked) =
    (own x ≡ Own s)
    × ((k : Peak)
    → sum_by (λ g. k.part (budget_at earlier g)) forked ≡ subtask_shares k budgets tasks s)
Matches budgets earlier tasks own (entry.Binding key value) OpenBinding = Unit {0}
Matches budgets earlier tasks own _ _ = ⊥

-- the same, entry by entry
abbrev pub Zips : List Budgets → List Budgets → List Task → (ℕ → Slot) → List Entry → List OpenEntry
    → Type 0
Zips budgets earlier tasks own [] [] = Unit {0}
Zips budgets earlier tasks own (e ∷ es) (o ∷ os) =
    Matches budgets earlier tasks own e o × Zips budgets earlier tasks own es os
Zips budgets earlier tasks own _ _ = ⊥

-- a scope of this slot is open
abbrev pub Opens : ℕ → List OpenEntry → Type 0
Opens x [] = ⊥
Opens x (OpenScope y forked ∷ os) = (y ≡ x) ⊎ Opens x os
Opens x (OpenBinding ∷ os) = Opens x os

-- the frame is at a point of a control path of its function, which counts `before` steps before
-- that point
pub record Point (p : Program) (budgets : List Budgets) (tasks : List Task) (f : Frame)
    (before : ℕ) : Type 0 where
  pub opened : List OpenEntry
  pub comes : Comes (skeleton_of p budgets f) f.pc (loops_of f.loops) before opened
  pub zips : Zips budgets (take f.function budgets) tasks (slot f) f.entries opened
  pub slots : (x s : ℕ) → slot f x ≡ Own s → Opens x opened
  pub size : length f.slots ≡ 16

-- each living task is at such a point
abbrev pub AllFollowPaths : Program → List Budgets → World → Type 0
AllFollowPaths p budgets w =
    (t : ℕ) → lives (task_at w t) ≡ true
    → (before : ℕ) × Point p budgets w.tasks (task_at w t).frame before

-- ---- the laws: of every program that passed its checks

-- in every state of every run, whatever the weights of steps are
abbrev pub TasksFollowPaths : Type 0
TasksFollowPaths =
    (p : Program) (budgets : List Budgets) → program_fault p.routines ≡ None
    → (events : List Event) → In (AllFollowPaths p budgets) (after p events)

-- each open loop has a turn left
abbrev pub HasTurns : List Loop → Type 0
HasTurns [] = Unit {0}
HasTurns (l ∷ ls) = (0 < l.left) × HasTurns ls

abbrev pub AllHaveTurns : World → Type 0
AllHaveTurns w = (t : ℕ) → lives (task_at w t) ≡ true → HasTurns (task_at w t).frame.loops

-- each open loop of a living task has a turn left
abbrev pub LoopsHaveTurns : Type 0
LoopsHaveTurns =
    (p : Program) → program_fault p.routines ≡ None
    → (events : List Event) → In AllHaveTurns (after p events)

abbrev pub NoneIdlesWithEntries : World → Type 0
NoneIdlesWithEntries w =
    (t : ℕ) → lives (task_at w t) ≡ false → (task_at w t).frame.entries ≡ []

-- a task that doesn't live has no entries
abbrev pub IdleHaveNoEntries : Type 0
IdleHaveNoEntries =
    (p : Program) → program_fault p.routines ≡ None
    → (events : List Event) → In NoneIdlesWithEntries (after p events)
