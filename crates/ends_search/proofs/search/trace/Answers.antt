use Rattle.std.proofs.Common.{◌≡◌, arith}
use Rattle.ends_search.specs.Search.{states_of, state_at}
use Rattle.ends_search.proofs.SearchLemmas.{way_back}
use Rattle.ends_search.proofs.StateLemmas.{came_from, starts}
use Rattle.ends_search.proofs.search.trace.Goals as goal

pub loop-at-preserved : goal.loop-at-preserved
loop-at-preserved g c =
    let s = c.args.space.now in
    let next = g.S.StateMachine.next c.args.setting.now in
    let i = c.loop-at.invariant in
    let o = c.index-origin.result.now in
    let from = came_from c.requires.space c.loop-at.at o (omega arith) i.0 c.index-origin.ensures in (
      omega (arith, from.before, i.0),
      rw c.in_ok-push.ensures.items (way_back next (g.S.StateMachine.can c.args.setting.now) (states_of next s.first s.origins.items)
          c.loop-at.back.items o c.loop-at.at c.args.place from s.first i.1),
    )

pub returns : goal.returns
returns g c =
    let s = c.args.space.now in
    let next = g.S.StateMachine.next c.args.setting.now in
    let can = g.S.StateMachine.can c.args.setting.now in
    let way = c.loop-at.invariant.1 in
    let at : c.loop-at.at ≡ 0 = omega (arith, c.loop-at-test.false) in
    let first : state_at next s.first s.origins.items c.loop-at.at ≡ s.first = rw at (starts next s.first s.origins.items s.first) in
    rw c.reverse.ensures.items (rw first at way)
