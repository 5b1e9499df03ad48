use Rattle.std.proofs.Common.{◌∙◌}
use Rattle.sts_joiners.proofs.TellLemmas as tells
use Rattle.sts_joiners.proofs.tally.Tally.on_complete.Goals as goal

pub returns-clause-stands : goal.returns-clause-stands
returns-clause-stands c ends h = rw c.tell.ensures (tells.stands_with c.args.self.now c.args.end ends h)

pub returns-clause-cancels : goal.returns-clause-cancels
returns-clause-cancels c ends h = (rw c.tell.ensures at c.cancels.ensures) ∙ tells.asks_with c.args.self.now c.args.end ends h
