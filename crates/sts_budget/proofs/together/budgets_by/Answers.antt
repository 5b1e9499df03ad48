use Rattle.std.proofs.Common.{◌≡◌, ◌<◌, ◌≤◌, length, refl, sym, subst, arith, rules}
use Rattle.sts_budget.specs.Change.{own_of, limit_of, IsMost}
use Rattle.sts_budget.specs.Together.{rows_of, top_of}
use Rattle.sts_budget.proofs.TogetherLemmas.{top_start, top_end}
use Rattle.sts_budget.proofs.together.budgets_by.Goals as goal

pub loop-pc-init : goal.loop-pc-init
loop-pc-init g c =
    let whole = rw c.in-Some.is at (c.in_ok-tables.ensures {u = tt}) in
    λ k. top_start k c.args.source.now.earlier.now c.args.source.now.code.now c.args.source.now.layout.now c.requires.ready
    (rows_of c.in-Some.tables k) (whole k) (top_of c.in_ok-tops.tops k) (c.in_ok-tops.ensures {u = tt} k)

pub add-requires : goal.add-requires
add-requires g c =
    let whole = rw c.in-Some.is at (c.in_ok-tables.ensures {u = tt}) in
    let within : c.loop-pc.pc < length c.args.source.now.code.now = omega arith in
    search (rules, whole, within, c.requires.ready, c.requires.small, c.requires.fits, c.loop-pc.invariant)

pub budgets_of-requires : goal.budgets_of-requires
budgets_of-requires g c = λ k. (c.loop-pc.invariant k).2

pub returns : goal.returns
returns g c =
    let whole = rw c.in-Some.is at (c.in_ok-tables.ensures {u = tt}) in
    let n : c.loop-pc.pc ≡ length c.args.source.now.code.now = omega arith in
    λ k. subst (λ m. IsMost k c.args.source.now.earlier.now c.args.source.now.code.now m × (m ≤ limit_of k)) (sym (c.budgets_of.ensures k))
    (top_end k c.args.source.now.earlier.now c.args.source.now.code.now c.args.source.now.layout.now c.requires.ready
    (rows_of c.in-Some.tables k) (whole k) (top_of c.loop-pc.tops k) c.loop-pc.pc (own_of k) n refl (c.loop-pc.invariant k))
