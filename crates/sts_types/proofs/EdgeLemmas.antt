-- The edges at a place, read off the instruction that the code has there.
use Rattle.std.proofs.Common.{◌≡◌, ℕ, ◌<◌, List, length, Some, None, Ok, Err, get_or, sym, ap, ◌∙◌}
use Rattle.std.proofs.lemmas.List.{get_or_default}
use Rattle.sts_code.specs.Program.{Program, routine, instr_at}
use Rattle.sts_code.specs.declared.instr.Instr.{Instr}
use Rattle.sts_code.specs.declared.instr.Instr.TheVariants.{Ret}
use Rattle.sts_rules.specs.declared.typing.Cause.{Cause}
use Rattle.sts_rules.specs.TypeState.{TypeState}
use Rattle.sts_rules.specs.Causes.{least_cause}
use Rattle.sts_rules.specs.Edges.{edges, follows, or_cause}

module _ (p : Program) (f : ℕ) (code : List Instr) (is : code ≡ (routine p f).code) (k : ℕ) (within : k < length code) (s : TypeState) (i d : Instr) (instr : i ≡ get_or code k d) where
  pub instr_there : i ≡ instr_at (routine p f).code k
  instr_there = instr ∙ get_or_default code k d Ret within ∙ ap (λ c. instr_at c k) is

  pub refused_there : (c : Cause) → least_cause p f k i s ≡ Some c → edges p f k s ≡ Err c
  refused_there c e =
      ap (λ j. or_cause (least_cause p f k j s) (follows p (routine p f).code k j s)) (sym instr_there) ∙ ap (λ o. or_cause o (follows p (routine p f).code k i s)) e

  pub edges_there : least_cause p f k i s ≡ None → edges p f k s ≡ Ok (follows p (routine p f).code k i s)
  edges_there none =
      ap (λ j. or_cause (least_cause p f k j s) (follows p (routine p f).code k j s)) (sym instr_there) ∙ ap (λ o. or_cause o (follows p (routine p f).code k i s)) none
