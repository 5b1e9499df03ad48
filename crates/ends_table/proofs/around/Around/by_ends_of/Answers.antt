use Rattle.std.proofs.Common.{◌≡◌, true}
use Rattle.sts_model.specs.declared.event.End.{End}
use Rattle.ends_table.specs.Led.{DecidedLeads, decides}
use Rattle.ends_picks.proofs.ListLemmas.{each_way}
use Rattle.ends_table.proofs.MissingLemmas.{way_more, on_ok}
use Rattle.ends_table.proofs.around.Around.by_ends_of.Goals as goal

pub loop-way-preserved : goal.loop-way-preserved
loop-way-preserved c =
    let k = c.args.known in
    way_more (λ (e : End). decides c.args.by k.seen.now k.part.now e ≡ true → DecidedLeads c.args.self.now.states.now
    c.args.self.now.own.now k.place k.seen.now c.args.failed k.i k.part.now e)
    c.as_slice-way-items.result.now c.loop-way.way-index c.by_end-step.result c.loop-way-test.true c.loop-way.invariant
    c.in_ok-note.ensures.before c.in_ok-note.ensures.step c.by_end-step.ensures

pub returns : goal.returns
returns c =
    let k = c.args.known in
    let led = λ (e : End). decides c.args.by k.seen.now k.part.now e ≡ true → DecidedLeads c.args.self.now.states.now
    c.args.self.now.own.now k.place k.seen.now c.args.failed k.i k.part.now e in
    on_ok c.none.result c.none.ensures (λ none. each_way led c.as_slice-way-items.result.now k.part.now.ways c.loop-way.way-index
    c.as_slice-way-items.ensures c.loop-way-test.false (c.loop-way.invariant none))
