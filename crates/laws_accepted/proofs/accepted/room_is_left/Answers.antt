use Rattle.laws_accepted.specs.Costs.{HasRoom}
use Rattle.laws_accepted.proofs.Printed.{with_main}
use Rattle.laws_accepted.proofs.accepted.room_is_left.Goals as goal

pub returns : goal.returns
returns c =
    with_main c.args.verified.now c.main_budgets.ensures.checked c.main_budgets.ensures.some
    (λ b events w. HasRoom c.args.verified.now b w) (c.room_is_left.ensures c.args.verified.now)
