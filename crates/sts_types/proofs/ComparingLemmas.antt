-- Comparing typestates decides whether they are the same.
use Rattle.std.proofs.Common.{◌≡◌, ℕ, List, [], ◌∷◌, Bool, true, ◌&&◌, ◌↔◌, IsTrue, arith, refl, sym, ap, ◌∙◌, subst, reverse, eqb, eqb-true, eq-eqb}
use Rattle.std.proofs.lemmas.List.{reverse-reverse}
use lib.Pointwise.{pointwise}
use Rattle.sts_code.specs.declared.instr.Joiner.{Joiner}
use Rattle.std.specs.contracts.prelude.BoolPartialEq.TheImpl as bool_eq
use Rattle.std.proofs.lemmas.Bool.{and_parts}
use Rattle.sts_code.specs.contracts.instr.JoinerPartialEq.TheImpl as joiner_eq
use Rattle.sts_rules.specs.declared.typing.SlotKind.{SlotKind}
use Rattle.sts_rules.specs.declared.typing.TypedPhase.{TypedPhase}
use Rattle.sts_rules.specs.declared.typing.TypedScope.{TypedScope}
use Rattle.sts_rules.specs.declared.typing.TypedEntry.{TypedEntry}
use Rattle.sts_rules.specs.declared.typing.TypedEntry.TheVariants.{Scope, Binding}
use Rattle.sts_rules.specs.declared.typing.TypedLoop.{TypedLoop}
use Rattle.sts_rules.specs.contracts.typing.TypedLoopPartialEq.TheImpl as loop_eq
use Rattle.sts_rules.specs.contracts.typing.TypedPhasePartialEq.TheImpl as phase_eq
use Rattle.sts_rules.specs.contracts.typing.TypedScopePartialEq.TheImpl as scope_eq
use Rattle.sts_rules.specs.contracts.typing.TypedEntryPartialEq.TheImpl as entry_eq
use Rattle.sts_rules.specs.contracts.typing.SlotKindPartialEq.TheImpl as slot_eq
use Rattle.sts_code.proofs.EqualLemmas.{joiner-to, joiner-from, bool-to, bool-from}

-- the test decides equality
abbrev pub IsSame : {X : Type 0} → (X → X → Bool) → Type 0
IsSame {X} E = ((a b : X) → E a b ≡ true → a ≡ b) × ((a : X) → E a a ≡ true)

pub lists_same : {X : Type 0} (E : X → X → Bool) → IsSame E → IsSame (pointwise E)
lists_same {X} E h = (to, from)
  where
    to : (xs ys : List X) → pointwise E xs ys ≡ true → xs ≡ ys
    to [] [] e = refl
    to [] (y ∷ ys) e = cc
    to (x ∷ xs) [] e = cc
    to (x ∷ xs) (y ∷ ys) e = let p = and_parts (E x y) (pointwise E xs ys) e in let a = h.0 x y p.0 in let b = to xs ys p.1 in cc

    from : (xs : List X) → pointwise E xs xs ≡ true
    from [] = refl
    from (x ∷ xs) = let a = h.1 x in let b = from xs in ap (λ t. t && pointwise E xs xs) a ∙ b

loops_same : IsSame loop_eq.eq-value.it
loops_same = ((λ a b e. grind (arith)), λ a. grind arith)

slots_same : IsSame slot_eq.eq-value.it
slots_same = ((λ a b e. grind arith), λ a. grind arith)

joiners_same : IsSame joiner_eq.eq-value.it
joiners_same = (joiner-to, joiner-from)

same_scope : (s s' : ℕ) (j j' : Joiner) (t t' : Bool) (p p' : TypedPhase) → s ≡ s' → j ≡ j' → t ≡ t' → p ≡ p' → ◌≡◌ {A = TypedScope} (record { slot = s; joiner = j; timed = t; phase = p }) (record { slot = s'; joiner = j'; timed = t'; phase = p' })
same_scope s s' j j' t t' p p' a b c d = rw (a, b, c, d) refl

bools_same : IsSame bool_eq.ghosts.eq
bools_same = (bool-to, bool-from)

all_true : (a b c d : Bool) → a ≡ true → b ≡ true → c ≡ true → d ≡ true → (a && (b && (c && d))) ≡ true
all_true a b c d p q r t = simp (p, q, r, t)

phases_same : IsSame phase_eq.eq-value.it
phases_same = ((λ a b e. grind arith), λ a. grind arith)

scopes_same : IsSame scope_eq.eq-value.it
scopes_same = (to, from)
  where
    to : (a b : TypedScope) → scope_eq.eq-value.it a b ≡ true → a ≡ b
    to a b e =
        let p = and_parts (eqb a.slot b.slot) _ e in
        let q = and_parts (bool_eq.ghosts.eq a.timed b.timed) _ p.1 in
        let r = and_parts _ (joiner_eq.eq-value.it a.joiner b.joiner) q.1 in
        same_scope a.slot b.slot a.joiner b.joiner a.timed b.timed a.phase b.phase (eqb-true a.slot b.slot p.0) (joiners_same.0 a.joiner b.joiner r.1) (bools_same.0 a.timed b.timed q.0) (phases_same.0 a.phase b.phase r.0)

    from : (a : TypedScope) → scope_eq.eq-value.it a a ≡ true
    from a =
        all_true (eqb a.slot a.slot) (bool_eq.ghosts.eq a.timed a.timed) (phase_eq.eq-value.it a.phase a.phase) (joiner_eq.eq-value.it a.joiner a.joiner)
        (eq-eqb a.slot a.slot refl) (bools_same.1 a.timed) (phases_same.1 a.phase) (joiners_same.1 a.joiner)

entries_same : IsSame entry_eq.eq-value.it
entries_same = (to, from)
  where
    to : (a b : TypedEntry) → entry_eq.eq-value.it a b ≡ true → a ≡ b
    to (Scope x) (Scope y) e = let h = scopes_same.0 x y e in cc
    to (Binding x) (Binding y) e = grind arith
    to _ _ e = cc

    from : (a : TypedEntry) → entry_eq.eq-value.it a a ≡ true
    from (Scope x) = scopes_same.1 x
    from (Binding x) = grind arith

-- a comparison of two lists is one of the lists in reverse
pub turned : {X : Type 0} → (xs ys a b : List X) (r : Bool) → reverse xs ≡ a → reverse ys ≡ b → (IsTrue r ↔ (xs ≡ ys)) → IsTrue r ↔ (a ≡ b)
turned xs ys a b r p q h = (
  λ t. sym p ∙ ap reverse (h.0 t) ∙ q,
  λ k. h.1 (sym (reverse-reverse xs) ∙ ap reverse (p ∙ k ∙ sym q) ∙ reverse-reverse ys),
)

-- two stacks that are seen in reverse are the same if their views are
module _ {X : Type 0} (E : X → X → Bool) (same : IsSame E) where
  pub stacks_same : (xs ys a b : List X) (r : Bool) → reverse xs ≡ a → reverse ys ≡ b → r ≡ pointwise E xs ys → IsTrue r ↔ (a ≡ b)
  stacks_same xs ys a b r p q e =
      let h = lists_same E same in
      turned xs ys a b r p q (λ t. h.0 xs ys (sym e ∙ t), λ k. e ∙ subst (λ l. pointwise E xs l ≡ true) k (h.1 xs))

pub are_same_loops : (xs ys a b : List TypedLoop) (r : Bool) → reverse xs ≡ a → reverse ys ≡ b → r ≡ pointwise loop_eq.eq-value.it xs ys → IsTrue r ↔ (a ≡ b)
are_same_loops = stacks_same _ loops_same

pub are_same_entries : (xs ys a b : List TypedEntry) (r : Bool) → reverse xs ≡ a → reverse ys ≡ b → r ≡ pointwise entry_eq.eq-value.it xs ys → IsTrue r ↔ (a ≡ b)
are_same_entries = stacks_same _ entries_same

pub is_same_entry : (a b : TypedEntry) (r : Bool) → r ≡ entry_eq.eq-value.it a b → IsTrue r ↔ (a ≡ b)
is_same_entry a b r e = (λ t. entries_same.0 a b (sym e ∙ t), λ k. e ∙ subst (λ x. entry_eq.eq-value.it a x ≡ true) k (entries_same.1 a))

pub are_same_slots : (xs ys : List SlotKind) (r : Bool) → r ≡ pointwise slot_eq.eq-value.it xs ys → IsTrue r ↔ (xs ≡ ys)
are_same_slots xs ys r e =
    let h = lists_same _ slots_same in
    (λ t. h.0 xs ys (sym e ∙ t), λ k. e ∙ subst (λ l. pointwise slot_eq.eq-value.it xs l ≡ true) k (h.1 xs))
