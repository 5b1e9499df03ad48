use Rattle.sts_cancel.proofs.RaisingLemmas.{Raises}
use Rattle.sts_cancel.proofs.cancelling.raise_living.Given as goal

abbrev pub invariant-loop : goal.invariant-loop
invariant-loop g l = Raises l.initial.tree l.tree l.s l.counter l.at
