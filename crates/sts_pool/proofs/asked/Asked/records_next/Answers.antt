use Rattle.sts_pool.proofs.Asking.{event_asked, full_asked, nothing_asked}
use Rattle.sts_pool.proofs.asked.Asked.records_next.Goals as goal

pub invariant_of-self : goal.invariant_of-self
invariant_of-self g c =
    full_asked g.O.Outside.gives g.B.Runs.program g.B.Runs.is_written g.B.Runs.outside c.self.inside.book c.self.inside.outside
    c.self.inside.is_spent (c.is_full.ensures.full.0 c.if-is_full.true) c.self.invariant

pub invariant_of-self-in_default : goal.invariant_of-self-in_default
invariant_of-self-in_default g c =
    nothing_asked g.O.Outside.gives g.B.Runs.program g.B.Runs.is_written g.B.Runs.outside c.self.inside.book c.self.inside.outside
    c.next.new.self c.self.inside.is_spent c.entries-entries.result c.next.result c.in_default.is c.entries-entries.ensures
    c.next.ensures.gives c.self.invariant

pub invariant_of-self-in-Ok : goal.invariant_of-self-in-Ok
invariant_of-self-in-Ok g c =
    event_asked g.O.Outside.gives g.B.Runs.program g.B.Runs.is_written g.B.Runs.outside c.self.inside.book c.outside.new.self
    c.self.inside.outside c.next.new.self c.self.inside.is_spent c.entries-entries.result c.in-Some.event c.next.result
    c.outside.ensures.program c.in-Ok.ensures.journal c.in-Some.ensures.outside c.in-Some.is c.entries-entries.ensures c.next.ensures.gives
    c.self.invariant
