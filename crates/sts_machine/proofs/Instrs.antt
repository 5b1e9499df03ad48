-- `==` on instructions is true if and only if they are the same, since that holds of the values of
-- each variant.
use Rattle.std.proofs.Common.{◌≡◌, ℕ, List, [], ◌∷◌, Bool, true, false, ◌&&◌, eqb, eqb-true, eq-eqb, Option, Some, None, inl, inr, refl, ap, subst, arith}
use Rattle.std.proofs.lemmas.Bool.{and_parts, and_from, false≢true}
use Rattle.std.specs.Bool.{Decides}
use Rattle.std.specs.Option.{option_eq}
use Rattle.std.specs.Ordering.{int_eq}
use Rattle.std.proofs.lemmas.Bool.Decides.{Decides-int_eq}
use Rattle.std.specs.contracts.prelude.BoolPartialEq.TheImpl as bool_eq
use denote.Struct.Field.{Field}
use denote.Enum.Compared.{Each, by}
use denote.Enum.Declared.{Choice, Record, values_one}
use Rattle.sts_code.specs.declared.instr.Instr.{Instr}
use Rattle.sts_code.specs.contracts.instr.Instr.{enum}
use Rattle.sts_code.specs.contracts.instr.InstrPartialEq.TheImpl as instr_eq
use Rattle.sts_code.specs.contracts.instr.JoinerPartialEq.TheImpl as joiner_eq
use Rattle.sts_code.specs.contracts.instr.KindPartialEq.TheImpl as kind_eq
use Rattle.sts_code.proofs.EqualLemmas.{joiner-to, joiner-from, bool-to, bool-from}

-- a test that the same values pass, and no others
record Equates {A : Type 0} (test : A → A → Bool) : Type 0 where
  to : (a b : A) → test a b ≡ true → a ≡ b
  from : (a : A) → test a a ≡ true

-- ---- of an enum, from those of its variants

abbrev EachEquates : (Fss : List (List Field)) → Each Bool Fss → Type 0
EachEquates [] each = Unit {0}
EachEquates (Fs ∷ Fss) each = Equates each.0 × EachEquates Fss each.1

to : (Fss : List (List Field)) (each : Each Bool Fss) → EachEquates Fss each → (a b : Choice Fss) → by false false Fss each a b ≡ true → a ≡ b
to [] each all a b e = absurd a
to (Fs ∷ Fss) each all (inl x) (inl y) e = ap inl (all.0.to x y e)
to (Fs ∷ Fss) each all (inl x) (inr y) e = absurd (false≢true e)
to (Fs ∷ Fss) each all (inr x) (inl y) e = absurd (false≢true e)
to (Fs ∷ Fss) each all (inr x) (inr y) e = ap inr (to Fss each.1 all.1 x y e)

from : (Fss : List (List Field)) (each : Each Bool Fss) → EachEquates Fss each → (a : Choice Fss) → by false false Fss each a a ≡ true
from [] each all a = absurd a
from (Fs ∷ Fss) each all (inl x) = all.0.from x
from (Fs ∷ Fss) each all (inr x) = from Fss each.1 all.1 x

decided : (N : Record) (each : Each Bool N.parts) → EachEquates N.parts each → (a b : N.D) → Decides (by false false N.parts each (N.as_values a) (N.as_values b)) (a ≡ b)
decided N each all a b = (
  λ e. values_one N a b (to N.parts each all (N.as_values a) (N.as_values b) e),
  λ e. subst (λ x. by false false N.parts each (N.as_values a) (N.as_values x) ≡ true) e (from N.parts each all (N.as_values a)),
)

-- ---- of a variant, from those of its fields

none : Equates (λ (x y : Unit {0}). true)
none = record { to = λ x y e. refl; from = λ x. refl }

last : {A : Type 0} {test : A → A → Bool} → Equates test → Equates (λ (x y : A × Unit {0}). test x.0 y.0)
last same = record { to = λ x y e i. (same.to x.0 y.0 e i, tt); from = λ x. same.from x.0 }

more : {A B : Type 0} {test : A → A → Bool} {rest : B → B → Bool} → Equates test → Equates rest → Equates (λ (x y : A × B). test x.0 y.0 && rest x.1 y.1)
more {A} {B} {test} {rest} same others =
    record {
      to = λ x y e. let both = and_parts (test x.0 y.0) (rest x.1 y.1) e in λ i. (same.to x.0 y.0 both.0 i, others.to x.1 y.1 both.1 i);
      from = λ x. and_from (test x.0 x.0) (rest x.1 x.1) (same.from x.0) (others.from x.1);
    }

number : Equates eqb
number = record { to = eqb-true; from = λ x. eq-eqb x x refl }

integer : Equates int_eq
integer = record { to = λ x y. (Decides-int_eq x y).0; from = λ x. (Decides-int_eq x x).1 refl }

optional : Equates (option_eq eqb)
optional = record { to = same; from = itself }
  where
    same : (a b : Option ℕ) → option_eq eqb a b ≡ true → a ≡ b
    same None None e = refl
    same (Some x) (Some y) e = ap Some (eqb-true x y e)
    same None (Some y) e = absurd (false≢true e)
    same (Some x) None e = absurd (false≢true e)

    itself : (a : Option ℕ) → option_eq eqb a a ≡ true
    itself None = refl
    itself (Some x) = eq-eqb x x refl

flag : Equates bool_eq.ghosts.eq
flag = record { to = bool-to; from = bool-from }

joiner : Equates joiner_eq.eq-value.it
joiner = record { to = joiner-to; from = joiner-from }

kind : Equates kind_eq.eq-value.it
kind = record { to = λ a b e. grind arith; from = λ a. grind arith }

-- ---- of instructions

infixr 5 ◌&◌
◌&◌ : {A B : Type 0} → A → B → A × B
a & b = (a, b)

-- in the order of the declaration
pub each_instr : (a b : Instr) → Decides (instr_eq.eq-value.it a b) (a ≡ b)
each_instr =
    decided enum _
    (last integer & none & none & none
    & last number & last number
    & none & none & none & none & none
    & last number & last number & last number & last number & none
    & more number (more flag (last joiner))
    & more number (more number (last optional))
    & more number (more optional (more optional (last number)))
    & last number & last number & more number (more number (last number)) & last number & last number
    & more number (last kind)
    & last number & last number & last number & none & last number & last number & last number
    & none & none & none & tt)
