use Rattle.std.proofs.Common.{◌≡◌, ◌<◌, length, subst, arith, rules}
use Rattle.sts_rules.specs.Budget.{skeleton}
use Rattle.sts_budget.specs.declared.change.Resource.{Resource}
use Rattle.sts_budget.specs.declared.change.Resource.TheVariants.{Steps, Tasks, Scopes, Binds}
use Rattle.sts_budget.specs.Ready.{flows_in}
use Rattle.sts_budget.specs.Table.{IsPartial}
use Rattle.sts_budget.specs.Together.{rows_of}
use Rattle.sts_budget.proofs.HandOn.{partial_none, partial_next}
use Rattle.sts_budget.proofs.TogetherLemmas.{each}
use Rattle.sts_budget.proofs.together.Tables.of.Goals as goal

pub loop-pc-init : goal.loop-pc-init
loop-pc-init g c = each _
    (partial_none Steps c.args.source.now.earlier.now c.args.source.now.code.now c.args.source.now.layout.now c.requires.ready 1
    c.in_ok-steps.steps.items (c.in_ok-steps.ensures {u = tt}))
    (partial_none Tasks c.args.source.now.earlier.now c.args.source.now.code.now c.args.source.now.layout.now c.requires.ready g.row.N
    c.in_ok-tasks.tasks.items (c.in_ok-tasks.ensures {u = tt}))
    (partial_none Scopes c.args.source.now.earlier.now c.args.source.now.code.now c.args.source.now.layout.now c.requires.ready g.row.N
    c.in_ok-scopes.scopes.items (c.in_ok-scopes.ensures {u = tt}))
    (partial_none Binds c.args.source.now.earlier.now c.args.source.now.code.now c.args.source.now.layout.now c.requires.ready g.row.N
    c.in_ok-binds.binds.items (c.in_ok-binds.ensures {u = tt}))

pub hand_on-requires : goal.hand_on-requires
hand_on-requires g c =
    let rows : (k : Resource) → length (rows_of c.loop-pc.tables k) ≡ length c.args.source.now.code.now = λ k. (c.loop-pc.invariant k).long in
    let within : c.loop-pc.pc < length c.args.source.now.code.now = omega arith in
    search (rules, rows, within, c.requires.ready, c.requires.small, c.requires.fits)

pub loop-pc-preserved : goal.loop-pc-preserved
loop-pc-preserved g c = λ k. partial_next k c.args.source.now.earlier.now c.args.source.now.code.now c.args.source.now.layout.now
    c.requires.ready c.loop-pc.pc (rows_of c.loop-pc.tables k) (rows_of c.hand_on.new.self k) (c.loop-pc.invariant k)
    (c.hand_on.ensures c.if-not-hand_on.false k)

pub returns : goal.returns
returns g c = λ k.
    (let n : c.loop-pc.pc ≡ length c.args.source.now.code.now = omega arith in
    subst (λ n. IsPartial (skeleton c.args.source.now.earlier.now c.args.source.now.code.now)
    (flows_in k c.args.source.now.earlier.now c.args.source.now.code.now c.args.source.now.layout.now) n (rows_of c.loop-pc.tables k)) n
    (c.loop-pc.invariant k))
