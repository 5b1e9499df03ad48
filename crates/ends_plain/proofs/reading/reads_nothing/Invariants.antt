use Rattle.ends_plain.proofs.NamedLemmas.{QuietBelow}
use Rattle.ends_plain.proofs.reading.reads_nothing.Given as goal

abbrev pub invariant-loop-k : goal.invariant-loop-k
invariant-loop-k l = QuietBelow l.program l.k
