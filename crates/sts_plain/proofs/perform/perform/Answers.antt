use Rattle.std.proofs.Common.{◌≡◌, ℕ, Bool, false, Option, refl}
use Rattle.sts_code.specs.declared.instr.Instr.{Instr}
use Rattle.sts_code.specs.declared.instr.Instr.TheVariants.{Open, Fork, Ret, Fail}
use Rattle.sts_code.specs.declared.instr.Joiner.{Joiner}
use Rattle.sts_model.specs.Effect.{takes_memory}
use Rattle.sts_plain.proofs.perform.perform.Goals as goal

-- each other instruction takes no memory
others_fixed : (i : Instr) → ((a : ℕ) (b : Bool) (c : Joiner) → i ≡ Open a b c → ⊥) → ((a b : ℕ) (c : Option ℕ) → i ≡ Fork a b c → ⊥) → (i ≡ Ret → ⊥) → (i ≡ Fail → ⊥) → takes_memory i ≡ false
others_fixed (Open a b c) n1 n2 n3 n4 = absurd (n1 a b c refl)
others_fixed (Fork a b c) n1 n2 n3 n4 = absurd (n2 a b c refl)
others_fixed Ret n1 n2 n3 n4 = absurd (n3 refl)
others_fixed Fail n1 n2 n3 n4 = absurd (n4 refl)
others_fixed i n1 n2 n3 n4 = cc

pub change-requires-clause-fixed : goal.change-requires-clause-fixed
change-requires-clause-fixed c =
    let n = c.in_default in
    others_fixed c.args.instr n.not-Open n.not-Fork n.not-Ret n.not-Fail
