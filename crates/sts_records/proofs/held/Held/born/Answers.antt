use Rattle.std.proofs.Common.{sym, ◌∙◌}
use Rattle.sts_records.proofs.Slots.{length-slots}
use Rattle.sts_records.proofs.held.Held.born.Goals as goal

pub returns-clause-value : goal.returns-clause-value
returns-clause-value g c = rw (← c.self.view_is) (c.self.invariant.2 ∙ sym (length-slots 0 c.self.inside.given.keys c.self.inside.places.slots))
