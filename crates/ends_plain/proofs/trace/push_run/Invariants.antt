use Rattle.std.proofs.Common.{◌≡◌, ◌++◌, ◌≤◌, replicate}
use Rattle.ends_plain.proofs.trace.push_run.Given as goal

abbrev pub invariant-loop : goal.invariant-loop
invariant-loop l =
    (l.events.items ≡ l.initial.events.items ++ replicate l.counter l.run.event) × (l.counter ≤ l.run.count)
