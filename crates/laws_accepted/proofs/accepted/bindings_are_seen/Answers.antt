use Rattle.laws_accepted.proofs.Views as laws
use Rattle.laws_accepted.proofs.accepted.bindings_are_seen.Goals as goal

pub returns : goal.returns
returns c =
    laws.bindings_are_seen c.args.verified.now
    (c.idle_have_no_entries.ensures c.args.verified.now c.main_budgets.ensures.checked)
