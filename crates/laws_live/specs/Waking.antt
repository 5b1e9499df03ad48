-- The tasks that an event may wake or put to sleep (this project's own).
use Rattle.std.specs.Prelude.{◌≡◌, ℕ, List, length, Bool, true, false, Option, Some, None, ◌==◌}
use Rattle.std.specs.Prelude.{◌||◌}
use Rattle.sts_code.specs.Program.{Program}
use Rattle.sts_code.specs.declared.instr.Instr.{Instr}
use Rattle.sts_code.specs.declared.instr.Instr.TheVariants.{Fork, Close, Ret, Fail}
use Rattle.sts_model.specs.declared.event.Event.{Event}
use Rattle.sts_model.specs.declared.event.Event.TheVariants as event
use Rattle.sts_model.specs.World.{instr_at}
use Rattle.sts_model.specs.Living.{is_in}
use Rattle.sts_model.specs.Misuse.{slot}
use Rattle.sts_model.specs.Effect.{named}
use Rattle.sts_model.specs.Live.{Live}
use Rattle.laws_live.specs.Reading.{live_task_at, live_scope_at, alive_at}
use Rattle.laws_live.specs.Waiting.{live_can_step}
use Rattle.laws_live.specs.Run.{live_apply}
use Rattle.laws_live.specs.Seen.{StandsAt}

-- is u the owner or a subtask of this scope?
abbrev pub is_around : Live → Option ℕ → ℕ → Bool
is_around v None u = false
is_around v (Some s) u = (live_scope_at v s).owner == u || is_in s (live_task_at v u).scope

-- may an instruction of t change whether another task u can step?
abbrev pub touches : Live → ℕ → Option Instr → ℕ → Bool
touches v t (Some (Fork x g h)) u = u == length v.tasks
touches v t (Some (Close x)) u =
    is_in (named (slot (alive_at v t).frame x)) (live_task_at v u).scope
touches v t (Some Ret) u = is_around v (live_task_at v t).scope u
touches v t (Some Fail) u = is_around v (live_task_at v t).scope u
touches v t _ u = false

-- may the event change whether u can step?
abbrev pub concerns : Program → Live → Event → ℕ → Bool
concerns p v (event.Step t) u = u == t || touches v t (instr_at p (alive_at v t).frame) u
concerns p v (event.Interrupt t) u = u == t
concerns p v (event.Expire s) u = is_around v (Some s) u

-- an event doesn't change whether a task can step, unless it concerns the task
abbrev pub OthersStay : Program → Type 0
OthersStay p =
    (events : List Event) (v : Live) (n : ℕ) → StandsAt p events v n
    → (e : Event) (u : ℕ) → concerns p v e u ≡ false
    → live_can_step p (live_apply p v e) u ≡ live_can_step p v u

-- is it a step of this task?
abbrev pub is_step_of : ℕ → Event → Bool
is_step_of u (event.Step t) = u == t
is_step_of u _ = false

-- a task that can step still can after any event but its own step
abbrev pub ReadyStays : Program → Type 0
ReadyStays p =
    (events : List Event) (v : Live) (n : ℕ) → StandsAt p events v n
    → (e : Event) (u : ℕ) → is_step_of u e ≡ false → live_can_step p v u ≡ true
    → live_can_step p (live_apply p v e) u ≡ true
