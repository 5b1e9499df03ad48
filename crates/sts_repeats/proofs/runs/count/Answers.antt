use Rattle.std.proofs.Common.{◌≡◌, ◌<◌, refl, ◌∙◌, ap, arith, length, take}
use Rattle.std.specs.Prelude.{count_by}
use Rattle.std.specs.Fn.{FnReturnsAt}
use Rattle.std.proofs.lemmas.Fn.{says_at}
use Rattle.std.proofs.lemmas.List.{take_all}
use Rattle.sts_repeats.specs.Spread.{spread}
use Rattle.sts_repeats.proofs.RunLemmas.{count_on, length_more, fits}
use Rattle.sts_repeats.proofs.runs.count.Goals as goal

pub loop-run-init : goal.loop-run-init
loop-run-init g c = (omega arith, λ p agree. refl)

pub counted-count-requires : goal.counted-count-requires
counted-count-requires g c =
    let low = fits c.args.runs.now c.loop-run.run-index c.run-item.result (omega arith) in
    let same = ap (λ r. r.more) c.run-item.is in
    omega (arith, low, same, c.requires.few)

pub overflow_add-count : goal.overflow_add-count
overflow_add-count g c =
    let low = fits c.args.runs.now c.loop-run.run-index c.run-item.result (omega arith) in
    let same = ap (λ r. r.more) c.run-item.is in
    omega (arith, low, same, c.requires.few, c.counted-count.ensures.few, c.loop-run.invariant.0)

pub loop-run-preserved : goal.loop-run-preserved
loop-run-preserved g c =
    let runs = c.args.runs.now in
    let i = c.loop-run.run-index in
    let run = c.run-item.result in
    let less : i < length runs = omega arith in
    let longer = length_more runs i run less in
    let same = ap (λ r. r.more) c.run-item.is in
    let at : FnReturnsAt g.F.Fn c.args.test run.value c.test-passes.result = says_at g.F.Fn c.test-passes.ensures refl in (
      omega (arith, longer, same, c.counted-count.ensures.few, c.loop-run.invariant.0),
      λ p agree. count_on p runs i run less c.run-item.is (c.loop-run.invariant.1 p agree) c.counted-count.ensures.number
          (agree run.value c.test-passes.result at),
    )

pub returns : goal.returns
returns g c = λ p agree.
    let all : take c.loop-run.run-index c.args.runs.now ≡ c.args.runs.now = take_all c.loop-run.run-index c.args.runs.now (omega arith) in
    c.loop-run.invariant.1 p agree ∙ ap (λ xs. count_by p (spread xs)) all
