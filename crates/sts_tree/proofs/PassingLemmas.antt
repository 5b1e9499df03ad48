-- Going along the ready list past the tasks that are out.
use Rattle.std.proofs.Common.{◌≡◌, ◌≢◌, ℕ, ◌<◌, List, [], ◌∷◌, ◌++◌, length, Bool, true, false, ◌==◌, Option, Some, None, refl, sym, ◌∙◌, ap, subst, arith, nat_eq}
use Rattle.std.proofs.lemmas.Bool.Decides.{nat_tests}
use Rattle.std.proofs.lemmas.List.{append_assoc}
use Rattle.std.specs.List.{list_any}
use Rattle.std.specs.Prelude.{if◌then◌else◌}
use Rattle.sts_tree.specs.Births.{has}
use Rattle.sts_links.specs.Lists.{AreDistinct, first_or}
use Rattle.laws_words.proofs.KeyLemmas.{not_back}
use Rattle.sts_tree.proofs.KeyLemmas.{same_key}

-- is the task out?
abbrev pub is_out : List ℕ → ℕ → Bool
is_out out t = list_any (λ o. o == t) out

-- ---- what is passed

-- what is passed is out
pub record Passes (ready out : List ℕ) (at : Option ℕ) : Type 0 where
  pub front : List ℕ
  pub back : List ℕ
  pub all_are : ready ≡ front ++ back
  pub next : at ≡ first_or back None
  pub passed : (t : ℕ) → is_out out t ≡ false → has t ready ≡ true → has t back ≡ true

-- like the record before, with a current task
pub record IsAt (ready out : List ℕ) (t : ℕ) : Type 0 where
  pub front : List ℕ
  pub back : List ℕ
  pub all_are : ready ≡ front ++ t ∷ back
  pub passed : (u : ℕ) → is_out out u ≡ false → has u ready ≡ true → has u (t ∷ back) ≡ true

pub is_at : (ready out : List ℕ) (at : Option ℕ) (t : ℕ) → Passes ready out at → at ≡ Some t → IsAt ready out t
is_at ready out at t p e = by p.back p.all_are p.next p.passed
  where
    by : (back : List ℕ) → ready ≡ p.front ++ back → at ≡ first_or back None → ((u : ℕ) → is_out out u ≡ false → has u ready ≡ true → has u back ≡ true) → IsAt ready out t
    by [] all_are next passed = cc
    by (k ∷ ks) all_are next passed =
        let same : k ≡ t = cc in
        record { front = p.front; back = ks; all_are = rw same at all_are; passed = rw same at passed }

has_mid : (t : ℕ) (front back : List ℕ) → has t (front ++ t ∷ back) ≡ true
has_mid t [] back = rw (same_key t) refl
has_mid t (x ∷ xs) back = by (nat_eq t x) refl (has_mid t xs back)
  where
    by : (b : Bool) → nat_eq t x ≡ b → has t (xs ++ t ∷ back) ≡ true → has t (x ∷ (xs ++ t ∷ back)) ≡ true
    by true e h = rw e refl
    by false e h = rw e h

pub is_ready : (ready out : List ℕ) (t : ℕ) → IsAt ready out t → has t ready ≡ true
is_ready ready out t h = ap (has t) h.all_are ∙ has_mid t h.front h.back

behind : (ready out : List ℕ) (t : ℕ) (h : IsAt ready out t) → ready ≡ (h.front ++ t ∷ []) ++ h.back
behind ready out t h = h.all_are ∙ sym (append_assoc h.front (t ∷ []) h.back)

-- a task that is out is passed
pub one_more : (ready out : List ℕ) (t : ℕ) (h : IsAt ready out t) (next : Option ℕ) → is_out out t ≡ true → next ≡ first_or h.back None → Passes ready out next
one_more ready out t h next is e =
    record { front = h.front ++ t ∷ []; back = h.back; all_are = behind ready out t h; next = e; passed = λ u o r. by u o (nat_eq u t) refl (h.passed u o r) }
  where
    by : (u : ℕ) → is_out out u ≡ false → (b : Bool) → nat_eq u t ≡ b → has u (t ∷ h.back) ≡ true → has u h.back ≡ true
    by u o true q r = let same : u ≡ t = grind (arith, nat_tests) in let never : true ≡ false = sym is ∙ ap (is_out out) (sym same) ∙ o in cc
    by u o false q r = rw q at r

-- ---- what is left

-- the keys from this one on
abbrev pub from : Option ℕ → List ℕ → List ℕ
from None ks = []
from (Some t) [] = []
from (Some t) (k ∷ ks) = if nat_eq t k then k ∷ ks else from (Some t) ks

from_first : (front back : List ℕ) → AreDistinct (front ++ back) → from (first_or back None) (front ++ back) ≡ back
from_first front [] d = refl
from_first [] (b ∷ bs) d = rw (same_key b) refl
from_first (x ∷ xs) (b ∷ bs) d =
    let other : x ≢ b = (not_back x xs (b ∷ bs) d.0).0 in
    let no : nat_eq b x ≡ false = grind (arith, nat_tests) in
    rw no (from_first xs (b ∷ bs) d.1)

left_is : (ready front back : List ℕ) → AreDistinct ready → ready ≡ front ++ back → from (first_or back None) ready ≡ back
left_is ready front back d e = ap (from (first_or back None)) e ∙ from_first front back (subst AreDistinct e d)

pub fewer_left : (ready out : List ℕ) (t : ℕ) (h : IsAt ready out t) (next : Option ℕ) → AreDistinct ready → next ≡ first_or h.back None → length (from next ready) < length (from (Some t) ready)
fewer_left ready out t h next d e =
    let all : from (Some t) ready ≡ t ∷ h.back = left_is ready h.front (t ∷ h.back) d h.all_are in
    let rest : from next ready ≡ h.back = ap (λ o. from o ready) e ∙ left_is ready (h.front ++ t ∷ []) h.back d (behind ready out t h) in
    rw (all, rest) (omega arith)
