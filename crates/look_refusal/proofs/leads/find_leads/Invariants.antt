use Rattle.std.proofs.Common.{[]}
use Rattle.look_refusal.specs.Leads.{AreNoted}
use Rattle.look_refusal.proofs.leads.find_leads.Given as goal

-- the places so far are noted
abbrev pub invariant-loop-from : goal.invariant-loop-from
invariant-loop-from l = AreNoted l.search l.from [] l.lists.items
