use Rattle.std.proofs.Common.{sym, ◌∙◌, arith}
use Rattle.ends_plain.proofs.FoundLemmas.{none_found, still_missing}
use Rattle.ends_plain.proofs.ends.is_found.Goals as goal

pub loop-one-preserved : goal.loop-one-preserved
loop-one-preserved c =
    still_missing c.args.found.now c.loop-one.one-index c.one-item.result c.args.end c.loop-one-test.true c.one-item.is
    (sym c.eq.ensures ∙ c.if-eq.false) c.loop-one.invariant

pub returns-clause-all : goal.returns-clause-all
returns-clause-all c there =
    absurd (none_found c.args.found.now c.loop-one.one-index c.args.end (omega (arith, c.loop-one-test.false)) c.loop-one.invariant there)
