use Rattle.std.proofs.Common.{◌≡◌, ◌++◌, drop, map}
use Rattle.serde_json.specs.View.{view}
use Rattle.look_cases.specs.Answer as def
use Rattle.look_cases.proofs.verdicts.budget_list.Given as goal

-- the budgets so far, and those of the rest
abbrev pub invariant-loop-i : goal.invariant-loop-i
invariant-loop-i l = map view l.list.items ++ def.budget_list (drop l.i l.functions) (drop l.i l.budgets) ≡ def.budget_list l.functions l.budgets
