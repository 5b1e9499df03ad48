use Rattle.sts_waits.proofs.waits.Waits.has_long_row.Given as goal

abbrev pub decreases-loop-left : goal.decreases-loop-left
decreases-loop-left g l = l.left
