use Rattle.std.proofs.Common.{◌≡◌}
use Rattle.ends_search.specs.Search.{IsSpace, Grows, states_of}
use Rattle.ends_search.proofs.SearchLemmas.{Spreads}
use Rattle.ends_search.proofs.search.expand.Given as goal

abbrev pub invariant-loop-event : goal.invariant-loop-event
invariant-loop-event g l =
    let next = g.S.StateMachine.next l.setting in
    let s = l.space in
    let old = states_of next l.fn.space.first l.fn.space.origins.items in
    let new = states_of next s.first s.origins.items in
    IsSpace next (g.S.StateMachine.can l.setting) (g.S.StateMachine.alike l.setting) g.S.StateMachine.last s.first s.origins.items s.closed s.kept.items s.marks.items
    × (s.first ≡ l.fn.space.first)
    × (s.closed ≡ l.fn.space.closed)
    × Grows old new
    × Spreads next (g.S.StateMachine.alike l.setting) old l.fn.space.closed l.event-items l.event-index new
