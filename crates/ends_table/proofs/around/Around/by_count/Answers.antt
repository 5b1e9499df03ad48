use Rattle.std.proofs.Common.{[], length, subst}
use Rattle.sts_model.specs.Joining.{result_of}
use Rattle.laws_calls.specs.declared.table.Seen.{Seen}
use Rattle.laws_calls.specs.Steps.{Leads, joined}
use Rattle.ends_table.proofs.MissingLemmas.{on_ok}
use Rattle.ends_table.proofs.around.Around.by_count.Goals as goal

pub returns : goal.returns
returns c =
    let a = c.args.self.now in
    on_ok c.by_none.result c.by_none.ensures (λ leads. λ may many. subst
    (λ (x : Seen). Leads a.states.now (joined a.own.now c.args.place x (result_of x.joiner [] (length x.parts)) c.args.failed))
    c.in_ok-after.ensures leads)
