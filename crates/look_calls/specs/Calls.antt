-- What a trace shows of a call: a task was forked with this function and these arguments, and came
-- to this end. The joiner of its scope was told of that end or not (this project's own).
use Rattle.std.specs.Prelude.{◌≡◌, ℕ, ◌<◌, ◌≤◌, ℤ, List, [], ◌∷◌, ◌++◌, length, take, Bool}
use Rattle.std.specs.Prelude.{Some, is_some}
use Rattle.std.specs.List.{Contains}
use Rattle.sts_code.specs.Program.{Program, routine}
use Rattle.sts_model.specs.declared.event.End.{End}
use Rattle.sts_model.specs.declared.event.Event.{Event}
use Rattle.sts_model.specs.declared.record.Frame.{Frame}
use Rattle.sts_model.specs.Living.{sub_state}
use Rattle.sts_model.specs.Run.{after}
use Rattle.sts_model.specs.World.{World, State, Running, task_at}
use Rattle.ends_plain.specs.Ends.{IsAllowed}
use Rattle.ends_plain.specs.declared.config.Setting.{Setting}
use Rattle.look_calls.specs.declared.found.CallEnd.{CallEnd}

-- ---- a task is forked

-- no task has this birth number yet
pub record IsUnborn (s : State) (t : ℕ) : Type 0 where
  pub world : World
  pub runs : s ≡ Running world
  pub unborn : length world.tasks ≤ t

-- the first locals of a frame, one for each argument of its function
abbrev pub first_locals : Program → Frame → List ℤ
first_locals p f = take (routine p f.function).args f.locals

-- a task has this birth number. It is in this function, and has these values in its first locals
pub record IsBorn (p : Program) (s : State) (t function : ℕ) (arguments : List ℤ) : Type 0 where
  pub world : World
  pub runs : s ≡ Running world
  pub born : t < length world.tasks
  pub in_function : (task_at world t).frame.function ≡ function
  pub has_arguments : first_locals p (task_at world t).frame ≡ arguments

-- the last of the events forks the task. So it has taken no step yet, and its first locals are the
-- arguments of its call
pub record IsForked (p : Program) (events : List Event) (t function : ℕ) (arguments : List ℤ)
    : Type 0 where
  pub earlier : List Event
  pub fork : Event
  pub splits : events ≡ earlier ++ fork ∷ []
  pub unborn : IsUnborn (after p earlier) t
  pub born : IsBorn p (after p events) t function arguments

-- ---- a task has ended

-- the task has ended like this, and the joiner of its scope was told of it or not
pub record HasEnded (s : State) (t : ℕ) (end : End) (is_heard : Bool) : Type 0 where
  pub world : World
  pub runs : s ≡ Running world
  pub ended : (task_at world t).outcome ≡ Some end
  pub heard : is_some (sub_state world t) ≡ is_heard

-- ---- a call

-- the trace is allowed; some of its first events fork a task by this call, and after all of them the
-- task has ended like this
pub record IsCallEnd (g : Setting) (c : CallEnd) : Type 0 where
  pub task : ℕ
  pub forking : List Event
  pub later : List Event
  pub splits : c.trace.items ≡ forking ++ later
  pub allowed : IsAllowed g.expiries g.interrupts c.trace.items
  pub forked : IsForked g.program forking task c.function c.arguments.items
  pub ended : HasEnded (after g.program c.trace.items) task c.end c.is_heard

abbrev pub AreCallEnds : Setting → List CallEnd → Type 0
AreCallEnds g found = (c : CallEnd) → Contains found c → IsCallEnd g c
