use Rattle.look_refusal.specs.Trail.{IsBegun}
use Rattle.look_refusal.proofs.trail.find_trail.Given as goal

-- the places so far have their rows
abbrev pub invariant-loop-to : goal.invariant-loop-to
invariant-loop-to l = IsBegun l.search l.to l.trail
