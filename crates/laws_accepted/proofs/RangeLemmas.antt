-- The program checks bound the slot of an `open`.
use Rattle.std.proofs.Common.{◌≡◌, ℕ, ◌<◌, List, [], ◌∷◌, length, Bool, ◌≤◌, ◌⊎◌, inl, inr, None, arith}
use Rattle.std.proofs.lemmas.Bool.{cases_lt, ltb-false, or_parts}
use Rattle.sts_code.specs.Checks as def
use Rattle.sts_code.specs.Program.{Program, Routine, routine, instr_at}
use Rattle.sts_code.specs.declared.instr.Instr.TheVariants.{Open}
use Rattle.sts_code.specs.declared.instr.Joiner.{Joiner}
use Rattle.sts_code.proofs.InstrLemmas.{sound_at}

pub opens_in_range : (p : Program) (f pc x : ℕ) (j : Joiner) (timed : Bool) → def.program_fault p.routines ≡ None → f < length p.routines → instr_at (routine p f).code pc ≡ Open x timed j → x < 16
opens_in_range p f pc x j timed e low is =
    let sound = sound_at p f pc (Open x timed j) e low is (λ z. (cc)) in
    let few = ltb-false 15 x (or_parts (def.is_past x) (def.has_bad_count j) sound.range).0 in
    omega (arith, few)

some_of : (rs : List Routine) → def.program_fault rs ≡ None → 0 < length rs
some_of [] e = cc
some_of (r ∷ rs) e = omega arith

-- a program has a function
pub some_function : (p : Program) → def.program_fault p.routines ≡ None → 0 < length p.routines
some_function p e = some_of p.routines e

-- what is never over the limit is at most the limit
pub not_more : (limit m : ℕ) → (limit < m → ⊥) → m ≤ limit
not_more limit m never = by (cases_lt limit m)
  where
    by : (limit < m) ⊎ (m ≤ limit) → m ≤ limit
    by (inl less) = absurd (never less)
    by (inr le) = le
