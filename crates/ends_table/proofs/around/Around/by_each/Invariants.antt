use Rattle.std.proofs.Common.{◌≡◌, [], ◌<◌, ℕ, true}
use Rattle.sts_model.specs.declared.event.End.{End}
use Rattle.laws_calls.specs.declared.table.Part.{Part}
use Rattle.laws_calls.specs.Steps.{MayEnd}
use Rattle.ends_table.specs.Led.{DecidedLeads, decides}
use Rattle.ends_table.proofs.around.Around.by_each.Given as goal

abbrev pub invariant-loop-i : goal.invariant-loop-i
invariant-loop-i l = l.missing.states.items ≡ [] → (k : ℕ) (part : Part) (e : End) → k < l.i → MayEnd l.seen k part e → decides l.by l.seen part e ≡ true → DecidedLeads l.self.states.now l.self.own.now l.place l.seen l.failed k part e
