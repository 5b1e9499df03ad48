-- What contracts see of a watched machine: its state, and the world as it last ran (this project's
-- own).
use Rattle.std.specs.Prelude.{ℕ, List, [], ◌∷◌, Option, is_some, ◌&&◌}
use Rattle.sts_code.specs.Program.{Program}
use Rattle.sts_model.specs.declared.event.Event.{Event}
use Rattle.sts_model.specs.World.{World, State, Running, Faulted, opening}
use Rattle.sts_model.specs.Run.{after, apply, counts, is_step, taken}
use Rattle.sts_plain.specs.Seen.{Seen, one_more, state_of}
use Rattle.sts_plain.specs.declared.misstep.Misstep.{Misstep}

pub record Watched : Type 0 where
  pub program : Program
  pub state : State
  pub last : World
  pub steps : ℕ

-- the world as it last ran: the world of a state that runs, or the world before a fault
abbrev pub last_of : World → State → World
last_of before (Running w) = w
last_of before (Faulted kind t f pc) = before

abbrev pub no_world : World
no_world = record { tasks = []; scopes = [] }

-- the world as it last ran, from this state on, and before it
abbrev pub last_from : Program → World → State → List Event → World
last_from p before state [] = last_of before state
last_from p before state (e ∷ es) = last_from p (last_of before state) (apply p state e) es

-- the world after a list of events; after a fault, the world before it
abbrev pub last_world : Program → List Event → World
last_world p events = last_from p no_world (opening p) events

-- what is seen after a list of events
abbrev pub watched : Program → List Event → Watched
watched p events = record {
  program = p;
  state = after p events;
  last = last_world p events;
  steps = taken p events;
}

-- what is seen after one event more
abbrev pub after_event : Watched → Event → Watched
after_event s e = record s {
  state = apply s.program s.state e;
  last = last_of s.last (apply s.program s.state e);
  steps = one_more (is_step e && counts s.program s.state e) s.steps;
}

-- the view of a plain machine that hasn't faulted, with the misstep that it didn't make
abbrev pub seen_of : Seen → Option Misstep → Watched
seen_of m misstep = record {
  program = m.program;
  state = state_of misstep (last_of no_world m.state);
  last = last_of no_world m.state;
  steps = one_more (is_some misstep) m.steps;
}
