use Rattle.std.proofs.Common.{ℕ, ◌≤◌, ◌<◌, arith}
use Rattle.std.specs.Prelude.{count_by}
use Rattle.laws_runs.specs.Tallies.{is_kind}
use Rattle.ends_table.specs.Answered.{CountLeads}
use Rattle.ends_table.proofs.MissingLemmas.{by_ok, number_more, on_ok}
use Rattle.ends_table.proofs.around.Around.tallies.Goals as goal

pub loop-count-preserved : goal.loop-count-preserved
loop-count-preserved c none =
    number_more (λ (n : ℕ). CountLeads c.args.self.now.states.now c.args.self.now.own.now c.args.scope.place c.args.scope.seen.now c.args.kind n)
    c.in_ok-least.least c.loop-count.count (c.loop-count.invariant (c.in_ok-note.ensures.before none))
    (by_ok c.tallied-step.result (c.in_ok-note.ensures.step none) c.tallied-step.ensures)

pub returns : goal.returns
returns c = on_ok c.none.result c.none.ensures (λ none. λ pick fits.
    let n : ℕ = count_by (is_kind c.args.kind) pick in
    let is = c.tally_range-range.ensures pick fits in
    let low : c.in_ok-least.least ≤ n = omega (arith, is.least, c.in_ok-least.ensures) in
    let less = c.in_ok-behind.ensures n is in
    let all : n < c.loop-count.count = omega (arith, less, c.loop-count-test.false) in
    c.loop-count.invariant none n low all)
