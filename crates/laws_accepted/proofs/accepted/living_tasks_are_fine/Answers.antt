use Rattle.laws_accepted.proofs.Room as laws
use Rattle.laws_accepted.proofs.accepted.living_tasks_are_fine.Goals as goal

pub returns : goal.returns
returns c =
    laws.living_tasks_are_fine c.args.verified.now c.main_budgets.ensures.checked c.main_budgets.ensures.accepted
    c.only_room_is_wanted.ensures c.accepted_has_place.ensures
