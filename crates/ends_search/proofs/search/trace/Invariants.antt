use Rattle.std.proofs.Common.{◌<◌, length, reverse}
use Rattle.ends_search.specs.Search.{IsWay, state_at}
use Rattle.ends_search.proofs.search.trace.Given as goal

abbrev pub invariant-loop-at : goal.invariant-loop-at
invariant-loop-at g l =
    let next = g.S.StateMachine.next l.setting in
    let origins = l.space.origins.items in
    (l.at < length origins)
    × IsWay next (g.S.StateMachine.can l.setting) (state_at next l.space.first origins l.at) (reverse l.back.items) (state_at next l.space.first origins l.place)

abbrev pub decreases-loop-at : goal.decreases-loop-at
decreases-loop-at g l = l.at
