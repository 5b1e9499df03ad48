use Rattle.std.proofs.Common.{arith}
use Rattle.std.proofs.lemmas.List.FromFn.{map-range_with_len_more}
use Rattle.sts_types.specs.Tables.{end_at}
use Rattle.sts_types.proofs.tables.ends_of.Goals as goal

pub loop-at-preserved : goal.loop-at-preserved
loop-at-preserved c =
    let more = map-range_with_len_more (end_at c.args.code.now) 0 c.loop-at.at c.loop-at.at (omega arith) in
    cc (more, c.in_ok-push.ensures.items, c.loop-at.invariant, c.end_at.ensures)
