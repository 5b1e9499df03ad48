use Rattle.std.proofs.Common.{◌≡◌, List, ◌∙◌, ap, subst, map, arith, take}
use Rattle.std.specs.Result.{IfOk}
use Rattle.laws_calls.specs.declared.table.Part.{Part}
use Rattle.std.proofs.lemmas.List.{take_all}
use Rattle.laws_calls.specs.Steps.{ended}
use Rattle.sts_repeats.specs.Spread.{spread}
use Rattle.sts_repeats.proofs.RunLemmas.{map_more}
use Rattle.ends_table.proofs.parts.all_ended.Goals as goal

pub loop-run-preserved : goal.loop-run-preserved
loop-run-preserved c =
    map_more ended c.runs-run-items.result.now c.loop-run.run-index c.run-item.result c.in_ok-ended.field-0 (spread c.loop-run.after.items)
    (spread c.push_run.new.runs.items)
    c.loop-run-test.true c.run-item.is c.in_ok-ended.ensures c.loop-run.invariant c.in_ok-push_run.ensures

pub returns : goal.returns
returns c =
    let runs = c.runs-run-items.result.now in
    let all : take c.loop-run.run-index runs ≡ runs = take_all c.loop-run.run-index runs (omega arith) in
    let same : spread c.loop-run.after.items ≡ map ended c.args.parts.now =
    c.loop-run.invariant ∙ ap (λ xs. map ended (spread xs)) all ∙ ap (map ended) c.runs-run-items.ensures in
    subst (λ (ps : List Part). IfOk c.of.result (λ xs. xs ≡ ps)) same c.of.ensures
