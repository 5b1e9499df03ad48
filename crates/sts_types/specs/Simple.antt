-- Instructions that only pop and push, and go on to the next place (this project's own).
use Rattle.std.specs.Prelude.{Bool, true, false, ◌&&◌, ◌||◌, not, ℕ, ◌≡◌, ◌+◌, ◌-◌, ◌≤◌, None}
use Rattle.sts_code.specs.Facts.{goes_straight_on, pops, pushes}
use Rattle.sts_code.specs.Loops.{is_times, is_next}
use Rattle.sts_code.specs.Program.{Program}
use Rattle.sts_code.specs.declared.limits.TheConstants.{MAX_OPERANDS}
use Rattle.sts_rules.specs.Causes.{least_cause}
use Rattle.sts_rules.specs.TypeState.{TypeState}
use Rattle.sts_code.specs.declared.instr.Instr.{Instr}
use Rattle.sts_code.specs.declared.instr.Instr.TheVariants.{Bound, OrElse, Interrupted}
use Rattle.sts_model.specs.Local.{is_local}

-- the instruction asks for a binding or an interrupt, and can't fail
abbrev pub only_asks : Instr → Bool
only_asks (Bound k) = true
only_asks (OrElse k) = true
only_asks Interrupted = true
only_asks _ = false

-- the instruction only goes on to the next place, and begins and ends no loop
abbrev pub is_straight : Instr → Bool
is_straight i = goes_straight_on i && not (is_times i || is_next i)

-- the instruction only pops and pushes, and goes on to the next place
abbrev pub is_simple : Instr → Bool
is_simple i = only_asks i || (is_local i && is_straight i)

-- the instruction only pops and pushes, no cause holds, and afterwards there are this many operands
pub record IsShort (p : Program) (f pc : ℕ) (i : Instr) (s : TypeState) (n : ℕ) : Type 0 where
  pub simple : is_simple i ≡ true
  pub none : least_cause p f pc i s ≡ None
  pub count : n ≡ s.height - pops p i + pushes i
  pub few : n ≤ MAX_OPERANDS
