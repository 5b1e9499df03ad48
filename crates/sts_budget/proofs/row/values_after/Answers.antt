use Rattle.std.proofs.Common.{◌≡◌, ◌<◌, ◌+◌, min, get_or, length, ap, ◌∙◌, arith, length-set}
use Rattle.sts_budget.proofs.Rows.{set_below}
use Rattle.sts_budget.specs.Change.{source_of, added_of}
use Rattle.sts_budget.proofs.row.values_after.Goals as goal

pub loop-d-preserved : goal.loop-d-preserved
loop-d-preserved g c =
    let within : c.loop-d.d < length c.loop-d.values = omega (arith, c.loop-d.invariant.0) in
    let sum = ap (λ x. x + c.added_of.result) (ap (λ k. get_or c.args.row.now k 0) c.source_of.ensures) ∙ ap
    (λ x. get_or c.args.row.now (source_of c.args.change c.args.depth c.loop-d.d) 0 + x) c.added_of.ensures in (
      length-set c.loop-d.values c.loop-d.d c.saturating_add.result ∙ c.loop-d.invariant.0,
      set_below (λ d x. x ≡ min (get_or c.args.row.now (source_of c.args.change c.args.depth d) 0 + added_of c.args.change c.args.depth d)
          18446744073709551615) c.loop-d.values c.loop-d.d c.saturating_add.result within c.loop-d.invariant.1
          (c.saturating_add.ensures ∙ ap (λ x. min x 18446744073709551615) sum),
    )

pub returns : goal.returns
returns g c = λ d lt. c.loop-d.invariant.1 d (omega arith)
