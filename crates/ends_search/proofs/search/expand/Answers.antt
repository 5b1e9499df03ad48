use Rattle.std.proofs.Common.{◌<◌, ◌≡◌, length, refl, sym, ◌∙◌, arith, rules, vec_len}
use Rattle.std.proofs.lemmas.List.{get_or_default}
use Rattle.ends_search.proofs.SearchLemmas.{grows_none, grows_on}
use Rattle.ends_search.proofs.ExpandLemmas.{expands, within_now, comes_now, can_front, can_last, spread_now, leads_all, leads_none}
use Rattle.ends_search.proofs.search.expand.Goals as goal

pub add-requires-clause-within : goal.add-requires-clause-within
add-requires-clause-within g c =
    let e = expands c.requires.space c.args.space.now.closed c.in_ok-state.state c.requires.within c.in_ok-state.ensures c.loop-event.invariant.3 in
    omega (arith, within_now e, c.loop-event.invariant.0.searched.traced.as_many)

pub add-requires-clause-can : goal.add-requires-clause-can
add-requires-clause-can g c =
    can_front
    (expands c.requires.space c.args.space.now.closed c.in_ok-state.state c.requires.within c.in_ok-state.ensures c.loop-event.invariant.3)
    (g.S.StateMachine.can c.args.setting.now) c.in_ok-events.events.items c.pop.new.self.items c.in-Some.last c.deref-event-items.result.now
    c.loop-event.event-index _ c.in-Some.ensures.items c.deref-event-items.ensures.value c.in_ok-events.ensures.only c.loop-event-test.true

pub add-requires-clause-comes : goal.add-requires-clause-comes
add-requires-clause-comes g c =
    comes_now
    (expands c.requires.space c.args.space.now.closed c.in_ok-state.state c.requires.within c.in_ok-state.ensures c.loop-event.invariant.3)
    (g.S.StateMachine.next c.args.setting.now) c.loop-event.space.first c.in_ok-next.next _ c.in_ok-next.ensures

pub loop-event-preserved : goal.loop-event-preserved
loop-event-preserved g c =
    let i = c.loop-event.invariant in
    let d = c.in_ok-there.ensures in
    let e = expands c.requires.space c.args.space.now.closed c.in_ok-state.state c.requires.within c.in_ok-state.ensures c.loop-event.invariant.3 in
    let less : c.loop-event.event-index < length c.deref-event-items.result.now = c.loop-event-test.true in (
      d.more.space,
      d.more.first ∙ i.1,
      d.more.closed ∙ i.2,
      grows_on _ _ _ i.3 d.more.grows,
      spread_now e i.4 d.more.grows _ less (get_or_default c.deref-event-items.result.now c.loop-event.event-index _ _ less) (d.there c.if-not-there.false),
    )

pub returns-in_default-clause-all : goal.returns-in_default-clause-all
returns-in_default-clause-all g c _ =
    let e = expands c.requires.space c.args.space.now.closed c.in_ok-state.state c.requires.within c.in_ok-state.ensures (grows_none _) in
    let events = c.in_ok-events.events.items in
    let long : vec_len c.in_ok-events.events ≡ length events = search rules in
    leads_none e (g.S.StateMachine.next c.args.setting.now) (g.S.StateMachine.can c.args.setting.now) (g.S.StateMachine.alike c.args.setting.now) events
    (sym long ∙ c.in_default.ensures.cases.0) c.in_ok-events.ensures.all

pub add-requires-2-clause-within : goal.add-requires-2-clause-within
add-requires-2-clause-within g c =
    let e = expands c.requires.space c.args.space.now.closed c.in_ok-state.state c.requires.within c.in_ok-state.ensures c.loop-event.invariant.3 in
    omega (arith, within_now e, c.loop-event.invariant.0.searched.traced.as_many)

pub add-requires-2-clause-can : goal.add-requires-2-clause-can
add-requires-2-clause-can g c =
    can_last
    (expands c.requires.space c.args.space.now.closed c.in_ok-state.state c.requires.within c.in_ok-state.ensures c.loop-event.invariant.3)
    (g.S.StateMachine.can c.args.setting.now) c.in_ok-events.events.items c.pop.new.self.items c.in-Some.last c.in-Some.ensures.items
    c.in_ok-events.ensures.only

pub add-requires-2-clause-comes : goal.add-requires-2-clause-comes
add-requires-2-clause-comes g c =
    comes_now
    (expands c.requires.space c.args.space.now.closed c.in_ok-state.state c.requires.within c.in_ok-state.ensures c.loop-event.invariant.3)
    (g.S.StateMachine.next c.args.setting.now) c.loop-event.space.first c.apply.new.self _ c.in_ok-apply.ensures

pub returns-clause-more : goal.returns-clause-more
returns-clause-more g c =
    let i = c.loop-event.invariant in
    let d = c.in_ok-is_there.ensures.more in
    record { space = d.space; first = d.first ∙ i.1; closed = d.closed ∙ i.2; grows = grows_on _ _ _ i.3 d.grows }

pub returns-clause-all : goal.returns-clause-all
returns-clause-all g c is =
    let d = c.in_ok-is_there.ensures in
    let e = expands c.requires.space c.args.space.now.closed c.in_ok-state.state c.requires.within c.in_ok-state.ensures c.loop-event.invariant.3 in
    let all : c.loop-event.event-index ≡ length c.deref-event-items.result.now = omega (arith, c.loop-event-test.false, c.loop-event.auto.event-index-end) in
    leads_all e c.loop-event.invariant.4 (g.S.StateMachine.can c.args.setting.now) c.pop.new.self.items c.in_ok-events.events.items c.in-Some.last
    c.deref-event-items.ensures.value all c.in-Some.ensures.items c.in_ok-events.ensures.all d.more.grows (d.there is)

pub returns-then-not-there-clause-more : goal.returns-then-not-there-clause-more
returns-then-not-there-clause-more g c =
    let i = c.loop-event.invariant in
    let d = c.in_ok-there.ensures.more in
    record { space = d.space; first = d.first ∙ i.1; closed = d.closed ∙ i.2; grows = grows_on _ _ _ i.3 d.grows }

pub loop-event-init : goal.loop-event-init
loop-event-init g c = (c.requires.space, refl, refl, grows_none _, record { there = λ j less e0. absurd (omega (arith, less)) })

pub returns-in_default-clause-more : goal.returns-in_default-clause-more
returns-in_default-clause-more g c = record { space = c.requires.space; first = refl; closed = refl; grows = grows_none _ }

pub add-requires-clause-space : goal.add-requires-clause-space
add-requires-clause-space g c = c.loop-event.invariant.0

pub add-requires-2-clause-space : goal.add-requires-2-clause-space
add-requires-2-clause-space g c = c.loop-event.invariant.0
