use Rattle.std.proofs.Common.{◌≡◌}
use Rattle.ends_search.specs.Search.{IsSpace}
use Rattle.ends_search.proofs.search.advance.Given as goal

abbrev pub invariant-loop : goal.invariant-loop
invariant-loop g l =
    let s = l.space in
    (s.first ≡ l.fn.space.first)
    × IsSpace (g.S.StateMachine.next l.setting) (g.S.StateMachine.can l.setting) (g.S.StateMachine.alike l.setting) g.S.StateMachine.last s.first s.origins.items s.closed s.kept.items s.marks.items
