use Rattle.std.proofs.Common.{ap, ap₂, ◌++◌, ◌∙◌}
use Rattle.sts_code.specs.Program.{Program}
use Rattle.sts_output.specs.Printed.{accepted_lines}
use Rattle.sts_output.proofs.modes.verify.lines.Goals as goal

pub returns : goal.returns
returns c =
    let functions_are = c.functions.ensures.value ∙ ap (λ (q : Program). q.routines) c.program.ensures.value in
    record {
      accepted = c.program.ensures.accepted;
      budgets = c.in_ok-budgets.budgets.items;
      told = c.in_ok-budgets.ensures;
      printed = c.in_ok-accepted_lines.ensures ∙ ap₂ (λ xs ys. xs ++ ys) c.new-text.ensures.bytes (ap₂ accepted_lines functions_are c.as_slice.ensures.value);
    }
