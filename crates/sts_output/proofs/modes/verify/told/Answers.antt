use Rattle.std.proofs.Common.{ℕ, List, ap, ◌∙◌}
use Rattle.sts_output.specs.Output as def
use Rattle.sts_output.proofs.modes.verify.told.Goals as goal

-- the output that these bytes make
abbrev outputs : List ℕ → def.Output
outputs bytes = record { bytes = bytes; status = 0 }

pub returns : goal.returns
returns c =
    let lines = c.in_ok-text.ensures in
    def.accepted lines.accepted lines.budgets lines.told (c.of.ensures ∙ ap outputs lines.printed)
