-- Traces as a search keeps them (this project's own).
use Rattle.std.specs.Prelude.{List, ◌++◌, replicate}
use Rattle.std.specs.List.{flat_map}
use Rattle.sts_model.specs.declared.event.Event.{Event}
use Rattle.ends_plain.specs.declared.trace.Run.{Run}

-- the events of a run
abbrev pub run_events : Run → List Event
run_events r = replicate r.count r.event

-- the events of some runs and of one more
abbrev pub events_of : List Run → Run → List Event
events_of runs last = flat_map run_events runs ++ run_events last
