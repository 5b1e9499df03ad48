-- No cause holds at an instruction: each test of a cause says no (this project's own).
use Rattle.std.specs.Prelude.{◌≡◌, ℕ, false}
use Rattle.sts_code.specs.Program.{Program, routine}
use Rattle.sts_code.specs.declared.instr.Instr.{Instr}
use Rattle.sts_rules.specs.TypeState.{TypeState}
use Rattle.sts_rules.specs.Causes as test

-- no cause from V1 to V6 or from V9 to V16 holds at the instruction at pc of function f, in this
-- typestate
pub record Fits (p : Program) (f pc : ℕ) (i : Instr) (s : TypeState) : Type 0 where
  pub operands : test.lacks_operands p i s ≡ false
  pub room : test.overflows p i s ≡ false
  pub inside : test.falls_off (routine p f).code pc i ≡ false
  pub forward : test.jumps_back pc i ≡ false
  pub loops : test.mismatches (routine p f).code pc i s ≡ false
  pub depth : test.is_too_deep i s ≡ false
  pub slots : test.has_wrong_slot i s ≡ false
  pub free : test.has_busy_slot i s ≡ false
  pub own : test.is_strangers i s ≡ false
  pub legal : test.is_illegal p.profile i s ≡ false
  pub structure : test.breaks_structure i s ≡ false
  pub nesting : test.is_nested i s ≡ false
  pub bound : test.is_unbound p f i s ≡ false
  pub joins : test.misjoins i s ≡ false
