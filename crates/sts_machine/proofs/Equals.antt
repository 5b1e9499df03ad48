-- `==` on the parts of two frames.
use Rattle.std.proofs.Common.{◌≡◌, List, Bool, true, refl, sym, ap, ◌∙◌, subst, reverse, arith}
use Rattle.std.specs.Bool.{Decides}
use Rattle.std.specs.Cmp.Lexicographic.{pointwise}
use Rattle.std.proofs.lemmas.List.{reverse-reverse}
use Rattle.std.proofs.lemmas.Slice.Eq.{slice_eq-Decides}
use Rattle.std.proofs.lemmas.Bool.Decides.{Decides-int_eq}
use Rattle.sts_model.specs.declared.record.Loop.{Loop}
use Rattle.sts_model.specs.declared.record.Entry.{Entry}
use Rattle.sts_model.specs.declared.record.Entry.TheVariants.{Scope, Binding}
use Rattle.sts_model.specs.declared.record.Slot.{Slot}
use Rattle.sts_model.specs.contracts.record.LoopPartialEq.TheImpl as loop_eq
use Rattle.sts_model.specs.contracts.record.EntryPartialEq.TheImpl as entry_eq
use Rattle.sts_model.specs.contracts.record.SlotPartialEq.TheImpl as slot_eq

-- a test that equals pass, and no others
decided : {X : Type 0} (E : X → X → Bool) → ((a b : X) → E a b ≡ true → a ≡ b) → ((a : X) → E a a ≡ true) → (a b : X) → Decides (E a b) (a ≡ b)
decided E to from a b = (to a b, λ e. subst (λ x. E a x ≡ true) e (from a))

-- a comparison of two lists is one of the lists in reverse
pub turned : {X : Type 0} → (xs ys a b : List X) (r : Bool) → reverse xs ≡ a → reverse ys ≡ b → Decides r (xs ≡ ys) → Decides r (a ≡ b)
turned xs ys a b r p q d = (
  λ t. sym p ∙ ap reverse (d.0 t) ∙ q,
  λ h. d.1 (sym (reverse-reverse xs) ∙ ap reverse (p ∙ h ∙ sym q) ∙ reverse-reverse ys),
)

-- two stacks, which are seen in reverse
pub stacks : {X : Type 0} {E : X → X → Bool} → ((a b : X) → Decides (E a b) (a ≡ b)) → (xs ys a b : List X) (r : Bool) → reverse xs ≡ a → reverse ys ≡ b → r ≡ pointwise E xs ys → Decides r (a ≡ b)
stacks each xs ys a b r p q e = turned xs ys a b r p q (slice_eq-Decides each xs ys r e)

pub each_loop : (a b : Loop) → Decides (loop_eq.eq-value.it a b) (a ≡ b)
each_loop = decided loop_eq.eq-value.it (λ a b e. grind arith) (λ a. grind arith)

pub each_slot : (a b : Slot) → Decides (slot_eq.eq-value.it a b) (a ≡ b)
each_slot = decided slot_eq.eq-value.it (λ a b e. grind arith) (λ a. grind arith)

pub each_entry : (a b : Entry) → Decides (entry_eq.eq-value.it a b) (a ≡ b)
each_entry = decided entry_eq.eq-value.it to from
  where
    to : (a b : Entry) → entry_eq.eq-value.it a b ≡ true → a ≡ b
    to (Binding k x) (Binding l y) e = grind (arith, Decides-int_eq)
    to a b e = grind arith

    from : (a : Entry) → entry_eq.eq-value.it a a ≡ true
    from (Scope s) = grind arith
    from (Binding k x) = let h = (Decides-int_eq x x).1 refl in grind (arith, h)
