-- One step, one event, lists of events, and the steps taken (this project's own).
use Rattle.std.specs.Prelude.{ℕ, ◌+◌, List, [], ◌∷◌, Bool, true, false, Option, Some, None, ◌&&◌}
use Rattle.std.specs.Prelude.{if◌then◌else◌, fold}
use Rattle.sts_code.specs.Program.{Program}
use Rattle.sts_code.specs.declared.instr.Instr.{Instr}
use Rattle.sts_model.specs.declared.event.Event.{Event}
use Rattle.sts_model.specs.declared.event.Event.TheVariants as event
use Rattle.sts_model.specs.declared.event.Fault.{Fault}
use Rattle.sts_model.specs.declared.record.Frame.{Frame}
use Rattle.sts_model.specs.World.{World, State, Running, Faulted, opening, instr_at, task_at}
use Rattle.sts_model.specs.World.{scope_at}
use Rattle.sts_model.specs.Living.{lives}
use Rattle.sts_model.specs.Misuse.{misuse}
use Rattle.sts_model.specs.Waiting.{can_step}
use Rattle.sts_model.specs.Effect.{effect}
use Rattle.sts_model.specs.Outside.{interrupt, can_expire, expire}

-- the effect of the instruction that the frame is at
abbrev pub perform : Program → World → ℕ → Frame → Option Instr → World
perform p w t f None = w
perform p w t f (Some i) = effect p w t f i

-- a fault, or the effect if there is none
abbrev pub stepped : Option Fault → Program → World → ℕ → Frame → State
stepped None p w t f = Running (perform p w t f (instr_at p f))
stepped (Some kind) p w t f = Faulted kind t f.function f.pc

-- a step of a task that can't step does nothing
abbrev pub step : Program → World → ℕ → State
step p w t = if can_step p w t then stepped (misuse p w t) p w t (task_at w t).frame else Running w

-- the state after an event; a fault stays
abbrev pub apply : Program → State → Event → State
apply p (Faulted kind t f pc) e = Faulted kind t f pc
apply p (Running w) (event.Step t) = step p w t
apply p (Running w) (event.Interrupt t) = Running (interrupt w t)
apply p (Running w) (event.Expire s) = Running (expire w s)

-- the state after a list of events
abbrev pub after : Program → List Event → State
after p events = fold (apply p) (opening p) events

-- does the event count: a step of a task that can step, an interrupt of a living task, an expiry
-- that marks a scope?
abbrev pub counts : Program → State → Event → Bool
counts p (Faulted kind t f pc) e = false
counts p (Running w) (event.Step t) = can_step p w t
counts p (Running w) (event.Interrupt t) = lives (task_at w t)
counts p (Running w) (event.Expire s) = can_expire (scope_at w s)

abbrev pub is_step : Event → Bool
is_step (event.Step t) = true
is_step _ = false

-- one more step, if the event is a step that counts
abbrev pub steps_in : Program → State → Event → ℕ
steps_in p state e = if is_step e && counts p state e then 1 else 0

-- the sum of what each event of a list counts in the state that the events before it led to
abbrev pub sum_over : {S : Type 0} → (S → Event → ℕ) → (S → Event → S) → S → List Event → ℕ
sum_over count change state [] = 0
sum_over count change state (e ∷ es) = count state e + sum_over count change (change state e) es

-- the number of steps that count in a list of events, from this state on
abbrev pub taken_from : Program → State → List Event → ℕ
taken_from p state events = sum_over (steps_in p) (apply p) state events

-- the steps taken, a faulting one included
abbrev pub taken : Program → List Event → ℕ
taken p events = taken_from p (opening p) events
