-- The laws that a task in a safe state takes no step that is a fault, and that no run does if all
-- states of a table are safe (this project's own).
use Rattle.std.specs.Prelude.{◌≡◌, ℕ, List, ◌++◌, length, Bool, true, false, Some, None}
use Rattle.sts_code.specs.Program.{Program}
use Rattle.sts_code.specs.declared.instr.Instr.{Instr}
use Rattle.sts_code.specs.declared.instr.Instr.TheVariants.{Open, Fork}
use Rattle.sts_model.specs.declared.event.Event.{Event}
use Rattle.sts_model.specs.World.{World, Running, task_at, instr_at}
use Rattle.sts_model.specs.Living.{lives, scope_of}
use Rattle.sts_model.specs.Misuse.{misuse, is_crowded}
use Rattle.sts_model.specs.Standing.{standing_tasks, standing_scopes}
use Rattle.sts_model.specs.Run.{after}
use Rattle.laws_runs.specs.Runs.{In, Ever}
use Rattle.laws_calls.specs.declared.table.Call.{Call}
use Rattle.laws_calls.specs.declared.table.Outside.{Outside}
use Rattle.laws_calls.specs.declared.table.Own.{Own}
use Rattle.laws_calls.specs.declared.table.Row.{Row}
use Rattle.laws_calls.specs.Steps.{Table, IsTable}
use Rattle.laws_calls.specs.Covers.{FrameFits}
use Rattle.ends_faults.specs.Safe.{IsSafe, AreSafe}

-- ---- births

-- would one birth more be over a limit?
abbrev pub lacks_births : World → Instr → Bool
lacks_births w (Open x timed joiner) = is_crowded (standing_scopes w) (length w.scopes)
lacks_births w (Fork x g h) = is_crowded (standing_tasks w) (length w.tasks)
lacks_births w i = false

-- the next instruction of the task stays within the limits of births
abbrev pub HasPlace : Program → World → ℕ → Type 0
HasPlace p w u =
    (i : Instr) → instr_at p (task_at w u).frame ≡ Some i → lacks_births w i ≡ false

-- so it is for each living task, in each state of the run
abbrev pub HavePlaces : Program → List Event → Type 0
HavePlaces p events =
    (before later : List Event) → before ++ later ≡ events
    → In (λ w. (u : ℕ) → lives (task_at w u) ≡ true → HasPlace p w u) (after p before)

-- ---- laws

-- the task is in this state of the call
pub record IsIn (rows : ℕ → Row) (w : World) (u : ℕ) (c : Call) (own : Own) : Type 0 where
  pub alive : lives (task_at w u) ≡ true
  pub fits : FrameFits rows w (task_at w u).frame own
  pub environment : (scope_of w u).environment ≡ c.environment

abbrev pub SafeIsFine : Type 0
SafeIsFine =
    Ever (λ p w. (rows : ℕ → Row) (u : ℕ) (c : Call) (own : Own) → IsIn rows w u c own
    → IsSafe p c own → HasPlace p w u → misuse p w u ≡ None)

-- whatever comes from outside, no run faults within the limits of births
abbrev pub NoRunFaults : Program → Type 0
NoRunFaults p =
    (events : List Event) → HavePlaces p events → (w : World) × (after p events ≡ Running w)

-- a table that allows cancels from outside and has only safe states shows this
abbrev pub SafeNeverFaults : Type 0
SafeNeverFaults =
    (p : Program) (outside : Outside) (t : Table) (root : Row) → IsTable p outside t root
    → outside.cancels ≡ true → AreSafe p t → NoRunFaults p
