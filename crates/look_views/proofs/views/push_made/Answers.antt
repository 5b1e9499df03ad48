use Rattle.look_views.proofs.LineLemmas.{line_written}
use Rattle.look_views.proofs.views.push_made.Goals as goal

pub returns-in-Ok : goal.returns-in-Ok
returns-in-Ok c d made plain = line_written c.push_line.result _ _ _ d (rw c.in-Ok.is at made) plain c.push_line.ensures
