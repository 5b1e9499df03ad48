use Rattle.std.proofs.Common.{◌≡◌, true, false, sym, ◌∙◌}
use Rattle.ends_table.proofs.reached.leads_after.Goals as goal

pub returns-else-is_possible : goal.returns-else-is_possible
returns-else-is_possible c = λ possible.
    let never : true ≡ false = sym (c.is_possible.ensures possible) ∙ c.if-is_possible.false in
    cc
