use Rattle.std.proofs.Common.{◌≡◌, take}
use Rattle.sts_world.proofs.world.copy_tallies.Given as goal

abbrev pub invariant-loop-tally : goal.invariant-loop-tally
invariant-loop-tally l = l.copies.items ≡ take l.tally-index l.tallies
