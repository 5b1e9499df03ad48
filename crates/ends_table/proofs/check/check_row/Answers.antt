use Rattle.std.proofs.Common.{subst}
use Rattle.ends_table.specs.Led.{IsLedAt}
use Rattle.ends_table.proofs.MissingLemmas.{one_more}
use Rattle.ends_table.proofs.check.check_row.Goals as goal

pub loop-own-preserved : goal.loop-own-preserved
loop-own-preserved c =
    let is_led = IsLedAt c.args.program.now c.args.outside c.args.table.now c.args.row.now in
    one_more is_led c.as_slice-own-items.result.now c.loop-own.own-index c.own-item.result c.loop-own-test.true c.loop-own.invariant
    (subst is_led c.own-item.is c.in_ok-check_state.ensures)
