-- What contracts see of a tally: its joiner, and the counters of the ends so far (this project's
-- own).
use Rattle.std.specs.Prelude.{◌≡◌, ℕ, ◌+◌, List}
use Rattle.sts_code.specs.declared.instr.Joiner.{Joiner}
use Rattle.sts_model.specs.declared.event.End.{End}
use Rattle.sts_model.specs.Told as kept
use Rattle.sts_model.specs.Told.{Told}

-- a joiner, and what is kept of the ends
pub record Tallied : Type 0 where
  pub joiner : Joiner
  pub told : Told

-- the tally represents these ends, in order of completion: it has their counters
abbrev pub StandsFor : Tallied → List End → Type 0
StandsFor tally ends = tally.told ≡ kept.told tally.joiner ends

-- the tally of a joiner after these ends
abbrev pub tallied : Joiner → List End → Tallied
tallied joiner ends = record { joiner = joiner; told = kept.told joiner ends }

-- the tally after one end more
abbrev pub with_end : Tallied → End → Tallied
with_end tally end = record tally { told = kept.tell tally.joiner tally.told end }

-- the number of ends that the joiner was told of
abbrev pub ends_told : Tallied → ℕ
ends_told tally = tally.told.successes + tally.told.failures
