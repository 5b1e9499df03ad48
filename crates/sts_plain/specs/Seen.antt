-- What contracts see of the plain machine: its program, its state and the steps that it took (this
-- project's own).
use Rattle.std.specs.Prelude.{◌≡◌, ℕ, ◌+◌, ◌-◌, ◌^◌, ◌<◌, List, length, take, fold, Bool, Option}
use Rattle.std.specs.Prelude.{true, false, Some, None, min, if◌then◌else◌, ◌&&◌}
use Rattle.sts_code.specs.Program.{Program}
use Rattle.sts_model.specs.declared.event.Event.{Event}
use Rattle.sts_model.specs.World.{World, State, Running, Faulted, task_at}
use Rattle.sts_model.specs.Run.{apply, counts, is_step}
use Rattle.sts_plain.specs.declared.misstep.Misstep.{Misstep}
use Rattle.sts_plain.specs.declared.misstep.PlainState.{PlainState}
use Rattle.sts_plain.specs.declared.misstep.PlainState.TheVariants as plain
use Rattle.sts_model.specs.declared.event.End.{End}

pub record Seen : Type 0 where
  pub program : Program
  pub state : State
  pub steps : ℕ

abbrev pub state_of : Option Misstep → World → State
state_of None w = Running w
state_of (Some m) w = Faulted m.kind m.task m.function m.pc

-- one step more, up to the greatest u64
abbrev pub one_more : Bool → ℕ → ℕ
one_more b n = if b then min (n + 1) (2 ^ 64 - 1) else n

-- what is seen after an event
abbrev pub after_event : Seen → Event → Seen
after_event s e =
    record s {
      state = apply s.program s.state e;
      steps = one_more (is_step e && counts s.program s.state e) s.steps;
    }

-- the first `count` of the events were applied, in order, and the next one was not
pub record AppliesFirst (old new : Seen) (events : List Event) : Type 0 where
  pub count : ℕ
  pub within : count < length events
  pub applied : new ≡ fold after_event old (take count events)

abbrev pub ended_or_running : Option End → PlainState
ended_or_running None = plain.Running
ended_or_running (Some end) = plain.Ended end

-- what `state` shows
abbrev pub shown : State → PlainState
shown (Running w) = ended_or_running (task_at w 0).outcome
shown (Faulted kind t f pc) = plain.Fault kind t f pc

-- has a task faulted?
abbrev pub is_fault : State → Bool
is_fault (Running w) = false
is_fault (Faulted kind t f pc) = true
