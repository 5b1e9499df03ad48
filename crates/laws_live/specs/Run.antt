-- One step, one event, lists of events, and the steps taken, in a live view without misuse (this
-- project's own).
use Rattle.std.specs.Prelude.{ℕ, ◌-◌, List, [], ◌∷◌, length, Bool, false, Option, Some, None}
use Rattle.std.specs.Prelude.{◌&&◌, if◌then◌else◌, fold}
use Rattle.sts_code.specs.Program.{Program}
use Rattle.sts_code.specs.declared.instr.Instr.{Instr}
use Rattle.sts_model.specs.declared.event.Event.{Event}
use Rattle.sts_model.specs.declared.event.Event.TheVariants as event
use Rattle.sts_model.specs.declared.record.Slot.TheVariants.{Empty}
use Rattle.sts_model.specs.declared.record.Frame.{Frame}
use Rattle.sts_model.specs.World.{entry_frame, instr_at}
use Rattle.sts_model.specs.Run.{is_step, sum_over}
use Rattle.sts_model.specs.Live.{Live, Alive}
use Rattle.laws_live.specs.Reading.{live_scope_at, alive_at, lives_in}
use Rattle.laws_live.specs.Waiting.{live_can_step}
use Rattle.laws_live.specs.Effect.{live_effect}
use Rattle.laws_live.specs.Outside.{live_interrupt, live_can_expire, live_expire}

-- the root task's own state at the beginning: the frame of the last function, `main`
abbrev pub live_root : Program → Alive
live_root p =
    record { frame = entry_frame (length p.routines - 1) [] Empty; flag = false; environment = [] }

-- the root task alone
abbrev pub live_opening : Program → Live
live_opening p =
    record {
      tasks = Some (record { scope = None; state = None; alive = Some (live_root p) }) ∷ [];
      scopes = [];
      root_end = None;
    }

-- the effect of the instruction that the frame is at
abbrev pub live_perform : Program → Live → ℕ → Frame → Option Instr → Live
live_perform p v t f None = v
live_perform p v t f (Some i) = live_effect p v t f i

-- a step of a task that can't step does nothing
abbrev pub live_step : Program → Live → ℕ → Live
live_step p v t =
    let f = (alive_at v t).frame in
    if live_can_step p v t then live_perform p v t f (instr_at p f) else v

-- the view after an event
abbrev pub live_apply : Program → Live → Event → Live
live_apply p v (event.Step t) = live_step p v t
live_apply p v (event.Interrupt t) = live_interrupt v t
live_apply p v (event.Expire s) = live_expire v s

-- the view after a list of events
abbrev pub live_after : Program → List Event → Live
live_after p events = fold (live_apply p) (live_opening p) events

-- does the event count?
abbrev pub live_counts : Program → Live → Event → Bool
live_counts p v (event.Step t) = live_can_step p v t
live_counts p v (event.Interrupt t) = lives_in v t
live_counts p v (event.Expire s) = live_can_expire (live_scope_at v s)

-- one more step, if the event is a step that counts
abbrev pub live_steps_in : Program → Live → Event → ℕ
live_steps_in p v e = if is_step e && live_counts p v e then 1 else 0

-- the number of steps that count in a list of events
abbrev pub live_taken : Program → List Event → ℕ
live_taken p events = sum_over (live_steps_in p) (live_apply p) (live_opening p) events
