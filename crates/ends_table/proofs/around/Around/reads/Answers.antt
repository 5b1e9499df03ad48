use Rattle.sts_model.specs.declared.event.End.{End}
use Rattle.ends_table.specs.Led.{EndLeads}
use Rattle.ends_picks.proofs.ListLemmas.{each_way}
use Rattle.ends_table.proofs.MissingLemmas.{way_more, on_ok}
use Rattle.ends_table.proofs.around.Around.reads.Goals as goal

pub loop-way-preserved : goal.loop-way-preserved
loop-way-preserved c =
    let k = c.args.known in
    let led = λ (e : End). EndLeads c.args.self.now.states.now c.args.self.now.own.now k.place k.seen.now k.i k.part.now c.args.succeeds e in
    way_more led c.as_slice-way-items.result.now c.loop-way.way-index c.read_by-step.result c.loop-way-test.true c.loop-way.invariant
    c.in_ok-note.ensures.before c.in_ok-note.ensures.step c.read_by-step.ensures

pub returns : goal.returns
returns c =
    let k = c.args.known in
    let led = λ (e : End). EndLeads c.args.self.now.states.now c.args.self.now.own.now k.place k.seen.now k.i k.part.now c.args.succeeds e in
    on_ok c.none.result c.none.ensures (λ none. each_way led c.as_slice-way-items.result.now k.part.now.ways c.loop-way.way-index
    c.as_slice-way-items.ensures c.loop-way-test.false (c.loop-way.invariant none))
