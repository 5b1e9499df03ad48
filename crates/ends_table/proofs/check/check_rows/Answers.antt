use Rattle.std.proofs.Common.{subst}
use Rattle.ends_table.specs.Led.{IsLedRow}
use Rattle.ends_table.proofs.MissingLemmas.{one_more}
use Rattle.ends_table.proofs.check.check_rows.Goals as goal

pub loop-row-preserved : goal.loop-row-preserved
loop-row-preserved c =
    let is_led = IsLedRow c.args.program.now c.args.outside c.args.table.now in
    one_more is_led c.args.table.now c.loop-row.row-index c.row-item.result c.loop-row-test.true c.loop-row.invariant
    (subst is_led c.row-item.is c.in_ok-check_row.ensures)
