use Rattle.std.proofs.Common.{◌≡◌, []}
use Rattle.std.specs.List.{AllWithin}
use Rattle.laws_calls.specs.declared.table.Way.{Way}
use Rattle.ends_table.specs.Led.{EndLeads}
use Rattle.ends_table.proofs.around.Around.reads.Given as goal

abbrev pub invariant-loop-way : goal.invariant-loop-way
invariant-loop-way l = l.missing.states.items ≡ [] → AllWithin (λ (way : Way). EndLeads l.self.states.now l.self.own.now l.known.place l.known.seen.now l.known.i l.known.part.now l.succeeds way.end) l.way-items 0 l.way-index
