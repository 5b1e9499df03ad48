use Rattle.std.proofs.Common.{take}
use Rattle.look_refusal.specs.Leads.{AreNoted}
use Rattle.look_refusal.proofs.leads.note_at_each.Given as goal

-- it is noted at the places so far
abbrev pub invariant-loop-to : goal.invariant-loop-to
invariant-loop-to l = AreNoted l.search l.from (take l.to-index l.places) l.lists.items
