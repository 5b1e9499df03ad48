use Rattle.laws_accepted.proofs.Printed as laws
use Rattle.laws_accepted.proofs.accepted.budgets_are_printed.Goals as goal

pub returns : goal.returns
returns c =
    laws.budgets_are_printed c.args.verified.now c.main_budgets.result c.main_budgets.ensures.checked
    c.main_budgets.ensures.some c.main_budgets.ensures.printed
