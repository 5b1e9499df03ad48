use Rattle.std.proofs.Common.{arith}
use Rattle.ends_picks.proofs.ListLemmas.{among_in}
use Rattle.ends_table.proofs.reached.left_in.Goals as goal

pub returns-in-Some : goal.returns-in-Some
returns-in-Some c = among_in c.args.states.now _ c.index-states-at.result _ (omega arith) c.index-states-at.is c.in-Some.ensures
