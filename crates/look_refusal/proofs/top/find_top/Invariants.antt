use Rattle.look_refusal.specs.Top.{AreFulls, IsTop}
use Rattle.look_refusal.proofs.top.find_top.Given as goal

-- the full sums at the places so far, and the greatest of them
abbrev pub invariant-loop-pc : goal.invariant-loop-pc
invariant-loop-pc l = AreFulls l.search l.trail l.pc l.fulls.items × IsTop l.search l.trail l.pc l.top.place l.top.most
