-- The facts of a function's code that follow from the program checks.
use Rattle.std.proofs.Common.{◌≡◌, ℕ, zero, suc, ◌<◌, ◌≤◌, length, false, Option, None, ◌||◌, nat_lt, ◌==◌, arith}
use Rattle.std.proofs.lemmas.Bool.{leb-false, ltb-false, or_parts}
use Rattle.sts_code.specs.Checks as def
use Rattle.sts_code.specs.Program.{Program, routine, instr_at}
use Rattle.sts_code.specs.declared.instr.Instr.TheVariants.{Times, Fork}
use Rattle.sts_code.proofs.CheckedLemmas.{code_is_short}
use Rattle.sts_code.proofs.InstrLemmas.{sound_at}
use Rattle.sts_code.proofs.LimitLemmas.{has_code}

some_turn : (n : ℕ) → (n == 0) || nat_lt 10000 n ≡ false → 0 < n
some_turn zero e = absurd (cc)
some_turn (suc n) e = omega arith

few_turns : (n : ℕ) → (n == 0) || nat_lt 10000 n ≡ false → n < 65536
few_turns n e = let f = ltb-false 10000 n (or_parts (n == 0) (nat_lt 10000 n) e).1 in omega arith

-- a function of a program that passed the checks
pub record IsChecked (p : Program) (f : ℕ) : Type 0 where
  pub some_code : 0 < length (routine p f).code
  pub short : length (routine p f).code ≤ 4096
  pub bounds : (pc n : ℕ) → instr_at (routine p f).code pc ≡ Times n → 0 < n
  pub few : (pc n : ℕ) → instr_at (routine p f).code pc ≡ Times n → n < 65536
  pub earlier : (pc x g : ℕ) (h : Option ℕ) → instr_at (routine p f).code pc ≡ Fork x g h → g < f

pub is_checked : (p : Program) (f : ℕ) → def.program_fault p.routines ≡ None → f < length p.routines → IsChecked p f
is_checked p f e lt = record {
  some_code = has_code p f e lt;
  short = (code_is_short p f e).0;
  bounds = λ pc n is. some_turn n (sound_at p f pc (Times n) e lt is (λ z. (cc))).range;
  few = λ pc n is. few_turns n (sound_at p f pc (Times n) e lt is (λ z. (cc))).range;
  earlier = λ pc x g h is. (
      let less = leb-false f g (sound_at p f pc (Fork x g h) e lt is (λ z. (cc))).earlier in
      omega arith);
}
