use Rattle.ends_table.proofs.MissingLemmas.{on_ok}
use Rattle.std.proofs.lemmas.Option.{slice_get_within}
use Rattle.ends_table.proofs.StepLemmas.{reads_lead}
use Rattle.ends_table.proofs.around.Around.read.Goals as goal

pub reads-requires : goal.reads-requires
reads-requires c = slice_get_within _ _ _ c.in_ok-subtask.ensures.known

pub returns : goal.returns
returns c =
    let a = c.args.self.now in
    on_ok c.reads.result c.reads.ensures (λ led. reads_lead a.program.now a.outside a.call.now a.states.now a.own.now c.args.succeeds
    c.args.handle _ _ _ _ c.in_ok-subtask.ensures led)
