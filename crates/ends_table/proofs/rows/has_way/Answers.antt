use Rattle.ends_picks.proofs.ListLemmas.{way_in}
use Rattle.ends_table.proofs.rows.has_way.Goals as goal

pub returns-then-is_way_to : goal.returns-then-is_way_to
returns-then-is_way_to c = λ yes. way_in c.args.ways.now c.loop-way.way-index _ c.args.end c.loop-way-test.true (c.is_way_to.ensures c.if-is_way_to.true)
