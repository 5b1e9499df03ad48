use Rattle.ends_table.proofs.TableLemmas.{is_closed}
use Rattle.ends_table.proofs.check.check_table.Goals as goal

pub returns : goal.returns
returns c = is_closed c.args.program.now c.args.outside c.args.table.now c.in-Some.root.now c.in-Some.ensures.lookup.1
    c.in_ok-check_root.ensures c.in_ok-check_rows.ensures
