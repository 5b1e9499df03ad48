use Rattle.look.proofs.Printing.{written_of}
use Rattle.look.proofs.program.on_kept.Goals as goal

pub returns : goal.returns
returns g c = written_of c.args.listing.now _ _ _ tt c.in_ok-status.ensures
