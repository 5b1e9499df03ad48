use Rattle.std.proofs.Common.{◌≡◌, take}
use Rattle.std.specs.List.{flat_map}
use Rattle.ends_plain.specs.Traces.{run_events}
use Rattle.ends_plain.proofs.trace.Trace.events.Given as goal

abbrev pub invariant-loop-run : goal.invariant-loop-run
invariant-loop-run l = l.events.items ≡ flat_map run_events (take l.run-index l.self-inside.runs.items)
