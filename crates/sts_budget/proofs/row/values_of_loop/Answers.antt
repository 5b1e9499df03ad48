use Rattle.std.proofs.Common.{◌≡◌, ◌<◌, ◌+◌, ◌*◌, min, get_or, length, ◌∙◌, arith, length-set}
use Rattle.sts_budget.proofs.Rows.{set_below}
use Rattle.sts_budget.proofs.row.values_of_loop.Goals as goal

pub loop-d-preserved : goal.loop-d-preserved
loop-d-preserved g c =
    let within : c.loop-d.d < length c.loop-d.values = omega (arith, c.loop-d.invariant.0) in (
      length-set c.loop-d.values c.loop-d.d _ ∙ c.loop-d.invariant.0,
      set_below (λ d x. x ≡ min (get_or c.args.head.now d 0 + c.args.own + c.args.turns * (get_or c.args.end.now d 0 + c.args.own))
          18446744073709551615) c.loop-d.values c.loop-d.d _ within c.loop-d.invariant.1 c.saturating_add.ensures,
    )

pub returns : goal.returns
returns g c = λ d lt. c.loop-d.invariant.1 d (omega arith)
