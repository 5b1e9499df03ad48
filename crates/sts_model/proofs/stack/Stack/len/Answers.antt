use Rattle.sts_model.proofs.ListLemmas.{length_reversed}
use Rattle.sts_model.proofs.stack.Stack.len.Goals as goal

pub returns-clause-len : goal.returns-clause-len
returns-clause-len g c = length_reversed c.self.inside.values.items _ _ c.self.view_is c.len.ensures.value

pub returns-clause-bound : goal.returns-clause-bound
returns-clause-bound g c = c.len.ensures.fits
