use Rattle.std.proofs.Common.{◌≡◌, ℕ, ℤ, false, refl}
use Rattle.sts_code.specs.declared.instr.Instr.{Instr}
use Rattle.sts_code.specs.declared.instr.Instr.TheVariants.{Push, Pop, Dup, Swap, Load, Store, Add, Sub, Mul, Lt, Eq, Div, Jmp, Jz, Times, Next}
use Rattle.sts_model.specs.Local.{is_local}
use Rattle.sts_frames.proofs.local_steps.done_at.Goals as goal

-- no other instruction is a local one
no_other : (i : Instr) → ((a : ℤ) → i ≡ Push a → ⊥) → (i ≡ Pop → ⊥) → (i ≡ Dup → ⊥) → (i ≡ Swap → ⊥) → ((a : ℕ) → i ≡ Load a → ⊥) → ((a : ℕ) → i ≡ Store a → ⊥) → (i ≡ Add → ⊥) → (i ≡ Sub → ⊥)
    → (i ≡ Mul → ⊥) → (i ≡ Lt → ⊥) → (i ≡ Eq → ⊥) → ((a : ℕ) → i ≡ Div a → ⊥) → ((a : ℕ) → i ≡ Jmp a → ⊥) → ((a : ℕ) → i ≡ Jz a → ⊥) → ((a : ℕ) → i ≡ Times a → ⊥) → (i ≡ Next → ⊥)
    → false ≡ is_local i
no_other (Push a) n1 n2 n3 n4 n5 n6 n7 n8 n9 n10 n11 n12 n13 n14 n15 n16 = absurd (n1 a refl)
no_other Pop n1 n2 n3 n4 n5 n6 n7 n8 n9 n10 n11 n12 n13 n14 n15 n16 = absurd (n2 refl)
no_other Dup n1 n2 n3 n4 n5 n6 n7 n8 n9 n10 n11 n12 n13 n14 n15 n16 = absurd (n3 refl)
no_other Swap n1 n2 n3 n4 n5 n6 n7 n8 n9 n10 n11 n12 n13 n14 n15 n16 = absurd (n4 refl)
no_other (Load a) n1 n2 n3 n4 n5 n6 n7 n8 n9 n10 n11 n12 n13 n14 n15 n16 = absurd (n5 a refl)
no_other (Store a) n1 n2 n3 n4 n5 n6 n7 n8 n9 n10 n11 n12 n13 n14 n15 n16 = absurd (n6 a refl)
no_other Add n1 n2 n3 n4 n5 n6 n7 n8 n9 n10 n11 n12 n13 n14 n15 n16 = absurd (n7 refl)
no_other Sub n1 n2 n3 n4 n5 n6 n7 n8 n9 n10 n11 n12 n13 n14 n15 n16 = absurd (n8 refl)
no_other Mul n1 n2 n3 n4 n5 n6 n7 n8 n9 n10 n11 n12 n13 n14 n15 n16 = absurd (n9 refl)
no_other Lt n1 n2 n3 n4 n5 n6 n7 n8 n9 n10 n11 n12 n13 n14 n15 n16 = absurd (n10 refl)
no_other Eq n1 n2 n3 n4 n5 n6 n7 n8 n9 n10 n11 n12 n13 n14 n15 n16 = absurd (n11 refl)
no_other (Div a) n1 n2 n3 n4 n5 n6 n7 n8 n9 n10 n11 n12 n13 n14 n15 n16 = absurd (n12 a refl)
no_other (Jmp a) n1 n2 n3 n4 n5 n6 n7 n8 n9 n10 n11 n12 n13 n14 n15 n16 = absurd (n13 a refl)
no_other (Jz a) n1 n2 n3 n4 n5 n6 n7 n8 n9 n10 n11 n12 n13 n14 n15 n16 = absurd (n14 a refl)
no_other (Times a) n1 n2 n3 n4 n5 n6 n7 n8 n9 n10 n11 n12 n13 n14 n15 n16 = absurd (n15 a refl)
no_other Next n1 n2 n3 n4 n5 n6 n7 n8 n9 n10 n11 n12 n13 n14 n15 n16 = absurd (n16 refl)
no_other i n1 n2 n3 n4 n5 n6 n7 n8 n9 n10 n11 n12 n13 n14 n15 n16 = cc

pub returns-in_default-clause-which : goal.returns-in_default-clause-which
returns-in_default-clause-which c =
    let n = c.in_default in
    no_other c.args.instr.now n.not-Push n.not-Pop n.not-Dup n.not-Swap n.not-Load n.not-Store n.not-Add n.not-Sub n.not-Mul n.not-Lt
    n.not-Eq n.not-Div n.not-Jmp n.not-Jz n.not-Times n.not-Next
