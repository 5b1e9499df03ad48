use Rattle.std.proofs.Common.{refl, arith}
use Rattle.sts_repeats.proofs.RunLemmas.{join_last}
use Rattle.sts_repeats.proofs.runs.joined.Goals as goal

pub returns-clause-all : goal.returns-clause-all
returns-clause-all g c =
    join_last c.args.runs.now c.args.value.now c.args.more c.index-runs-n.result (omega arith) c.index-runs-n.is (c.if-not-same.ensures refl)
