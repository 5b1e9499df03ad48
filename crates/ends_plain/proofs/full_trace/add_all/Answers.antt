use Rattle.std.proofs.Common.{◌<◌, ◌≤◌, ◌+◌, List, length, drop, subst, arith}
use Rattle.std.specs.Prelude.{slice_index_or}
use Rattle.std.proofs.lemmas.List.{drop_more, drop_all}
use Rattle.sts_model.specs.declared.event.Event.{Event}
use Rattle.sts_model.specs.declared.event.Event.TheVariants as event
use Rattle.ends_search.specs.Search.{IsWay}
use Rattle.ends_plain.specs.declared.config.Config.{Config}
use Rattle.ends_plain.specs.Configs.{next, next_kept, can, tries}
use Rattle.ends_plain.proofs.SettleLemmas.{way_kept}
use Rattle.ends_plain.proofs.full_trace.add_all.Goals as goal

pub loop-event-init : goal.loop-event-init
loop-event-init c first r begins way = (way, begins)

pub loop-event-preserved : goal.loop-event-preserved
loop-event-preserved c first r begins way =
    let a = c.args.asked.now in
    let events = c.args.events.now in
    let at = c.loop-event.event-index in
    let x = c.loop-event.way.config in
    let i = c.loop-event.invariant first r begins way in
    let less : at < length events = omega arith in
    let e = slice_index_or events at (event.Step 0) in
    let ahead = subst (λ (es : List Event). IsWay (next_kept a) (tries a.setting) x es r) (drop_more events at (event.Step 0) less) i.0 in
    rw (c.in_ok-add_own_steps.ensures.config, c.in_ok-add_own_steps.ensures.trace, c.in_ok-go.ensures.config, c.in_ok-go.ensures.trace)
    (way_kept a first x r (drop (at + 1) events) c.loop-event.way.trace e ahead i.1)

pub returns : goal.returns
returns c first r begins way =
    let a = c.args.asked.now in
    let events = c.args.events.now in
    let at = c.loop-event.event-index in
    let i = c.loop-event.invariant first r begins way in
    let over : length events ≤ at = omega arith in
    let ends = subst (λ (es : List Event). IsWay (next_kept a) (tries a.setting) c.loop-event.way.config es r) (drop_all at events over) i.0 in
    subst (λ (x : Config). IsWay (next a.setting) (can a.setting) first c.loop-event.way.trace x) ends.leads i.1
