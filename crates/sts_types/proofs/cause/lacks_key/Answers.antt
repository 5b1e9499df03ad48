use Rattle.std.proofs.Common.{◌∙◌, ◌&&◌, not, ℕ}
use Rattle.sts_rules.specs.Causes.{needs, is_bound}
use Rattle.sts_types.proofs.Ranges.{any_next, any_here, any_end, any_all}
use Rattle.sts_types.proofs.cause.lacks_key.Goals as goal

pub returns-then-lacks : goal.returns-then-lacks
returns-then-lacks c =
    let test = λ (k : ℕ). needs c.args.program.now c.args.child k && not (is_bound c.args.program.now c.args.function c.args.state.now k) in
    any_here test c.loop-key.key 16 c.lacks.result c.loop-key-test.true c.lacks.ensures c.if-lacks.true ∙ c.loop-key.invariant ∙ any_all test 16

pub loop-key-preserved : goal.loop-key-preserved
loop-key-preserved c =
    let test = λ (k : ℕ). needs c.args.program.now c.args.child k && not (is_bound c.args.program.now c.args.function c.args.state.now k) in
    any_next test c.loop-key.key 16 c.lacks.result c.loop-key-test.true c.lacks.ensures c.if-lacks.false ∙ c.loop-key.invariant

pub returns : goal.returns
returns c =
    let test = λ (k : ℕ). needs c.args.program.now c.args.child k && not (is_bound c.args.program.now c.args.function c.args.state.now k) in
    any_end test c.loop-key.key 16 c.loop-key-test.false ∙ c.loop-key.invariant ∙ any_all test 16
