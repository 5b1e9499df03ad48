use Rattle.std.proofs.Common.{◌<◌, arith, length}
use Rattle.std.proofs.lemmas.Bool.Decides.{nat_tests}
use Rattle.ends_faults.proofs.PlaceLemmas.{shown}
use Rattle.ends_faults.proofs.never.shows.Goals as goal

pub returns : goal.returns
returns c = λ yes.
    let some : 0 < length c.args.table.now = grind (arith, nat_tests, c.in-Some.ensures.lookup.0) in
    shown c.args.program.now c.args.outside c.args.table.now c.in-Some.root.now c.requires.closed c.requires.cancels some
    c.in-Some.ensures.lookup.1 (omega arith) (c.in_ok-safe.ensures yes)
