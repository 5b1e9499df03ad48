-- What is written of a run after its last event, or before the first and after each (this project's
-- own).
use Rattle.std.specs.Prelude.{ℕ, ◌+◌, Bool, if◌then◌else◌, List, ◌∷◌, [], ◌++◌, length}
use Rattle.sts_code.specs.Program.{Program}
use Rattle.sts_model.specs.declared.event.Event.{Event}
use Rattle.sts_model.specs.Run.{after, counts}
use Rattle.sts_plain.specs.Seen.{shown}
use Rattle.sts_output.specs.Output.{Output, state_status}
use Rattle.look_lines.specs.Watched.{Watched, watched}
use Rattle.look_lines.specs.declared.watch.Applied.{Applied}

-- the bytes for the state after a number of events, and those for an event and the state after it
pub record View : Type 0 where
  pub state : ℕ → Watched → List ℕ
  pub event : Applied → Watched → List ℕ

-- the state after these events
abbrev pub view_after : View → Program → List Event → List ℕ
view_after v p events = v.state (length events) (watched p events)

-- an event, if these events came before
abbrev pub applied : Program → List Event → Event → Applied
applied p done e = record {
  number = length done + 1;
  event = e;
  is_counted = counts p (after p done) e;
}

-- an event and the state after it, if these events came before
abbrev pub view_of_event : View → Program → List Event → Event → List ℕ
view_of_event v p done e = v.event (applied p done e) (watched p (done ++ e ∷ []))

abbrev pub views_from : View → Program → List Event → List Event → List ℕ
views_from v p done [] = []
views_from v p done (e ∷ es) = view_of_event v p done e ++ views_from v p (done ++ e ∷ []) es

-- the state before the first event, and after each
abbrev pub view_each : View → Program → List Event → List ℕ
view_each v p events = view_after v p [] ++ views_from v p [] events

-- the status is that of the last state: 0 if the root succeeded, 1 if it failed, otherwise 5
abbrev pub after_output : View → Program → List Event → Output
after_output v p events =
    record { bytes = view_after v p events; status = state_status (shown (after p events)) }

abbrev pub each_output : View → Program → List Event → Output
each_output v p events =
    record { bytes = view_each v p events; status = state_status (shown (after p events)) }

abbrev pub view_output : View → Bool → Program → List Event → Output
view_output v each p events = if each then each_output v p events else after_output v p events
