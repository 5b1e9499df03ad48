use Rattle.ends_plain.specs.Named.{LeadsBack}
use Rattle.ends_plain.proofs.names.is_naming.Given as goal

abbrev pub invariant-loop-k : goal.invariant-loop-k
invariant-loop-k l = LeadsBack l.names l.back l.births l.k
