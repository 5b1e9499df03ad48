use Rattle.std.proofs.Common.{◌≡◌, [], true}
use Rattle.std.specs.List.{AllWithin}
use Rattle.laws_calls.specs.declared.table.Way.{Way}
use Rattle.ends_table.specs.Led.{DecidedLeads, decides}
use Rattle.ends_table.proofs.around.Around.by_ends_of.Given as goal

abbrev pub invariant-loop-way : goal.invariant-loop-way
invariant-loop-way l = l.missing.states.items ≡ [] → AllWithin (λ (way : Way). decides l.by l.known.seen.now l.known.part.now way.end ≡ true → DecidedLeads l.self.states.now l.self.own.now l.known.place l.known.seen.now l.failed l.known.i l.known.part.now way.end) l.way-items 0 l.way-index
