use Rattle.std.proofs.Common.{◌∙◌, sym}
use Rattle.sts_model.specs.declared.record.Slot.TheVariants.{Empty, Lent}
use Rattle.sts_world.proofs.Resting.{sole_slot}
use Rattle.sts_world.proofs.held.sole_scope.Goals as goal

pub returns-in-Empty : goal.returns-in-Empty
returns-in-Empty c =
    sole_slot c.args.slots.now 15 _ Empty c.told-slots
    (rw c.told-slots at (sym c.are_empty.ensures ∙ c.if-not-are_empty.false)) (sym c.get-first.ensures ∙ c.in-Empty.is)

pub returns-in-Lent : goal.returns-in-Lent
returns-in-Lent c =
    sole_slot c.args.slots.now 15 _ (Lent c.in-Lent.s) c.told-slots
    (rw c.told-slots at (sym c.are_empty.ensures ∙ c.if-not-are_empty.false)) (sym c.get-first.ensures ∙ c.in-Lent.is)
