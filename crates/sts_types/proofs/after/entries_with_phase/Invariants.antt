use Rattle.std.proofs.Common.{◌≡◌, ◌-◌, length, drop, map}
use Rattle.sts_rules.specs.Edges.{phase_set}
use Rattle.sts_types.proofs.after.entries_with_phase.Given as goal

-- what lies below is set
abbrev pub invariant-loop-i : goal.invariant-loop-i
invariant-loop-i l = l.after ≡ map (phase_set l.slot l.phase) (drop (length l.entries - l.i) l.entries)
