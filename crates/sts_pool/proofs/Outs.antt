-- Lists of different numbers: which numbers are in them, and that a table has a record for each.
use Rattle.std.proofs.Common.{◌≡◌, ◌≢◌, ℕ, zero, suc, ◌+◌, ◌≤◌, List, [], ◌∷◌, ◌++◌, length, Bool, true, false, not, cond, inl, inr, ◌⊎◌, ◌||◌, ◌==◌, eqb, Option, Some, None, refl, sym, ◌∙◌, ap, filter, get_or, is_some, arith}
use Rattle.std.proofs.lemmas.Bool.{cases_eq, or_cases, or_right}
use Rattle.std.proofs.lemmas.Bool.Decides.{nat_tests}
use Rattle.std.proofs.lemmas.List.Folds.{list_any-append}
use Rattle.std.proofs.lemmas.List.Sums.{sum_by-cons}
use Rattle.std.proofs.lemmas.Map.Keys.{IsDistinct-push}
use Rattle.std.proofs.lemmas.Map.Made.{length-le_from_is_member}
use Rattle.std.proofs.lemmas.Map.Views.{any-filter_same}
use Rattle.std.specs.Cmp.{nat_eq_equiv}
use Rattle.std.specs.List.{list_any, IsDistinct, AllByRecursion, count_by}

-- ---- which numbers are in a list

-- is it in the list?
abbrev pub among : List ℕ → ℕ → Bool
among xs t = list_any (λ o. o == t) xs

same_flip : (o t : ℕ) → (o == t) ≡ eqb t o
same_flip o t = grind (arith, nat_tests)

pub among_flip : (xs : List ℕ) (t : ℕ) → among xs t ≡ list_any (eqb t) xs
among_flip [] t = refl
among_flip (x ∷ xs) t = rw (same_flip x t, among_flip xs t) refl

pub same_from : (o t : ℕ) → (o == t) ≡ true → o ≡ t
same_from o t e = grind (arith, nat_tests)

-- ---- one more

-- it is in the list, or it is the new one
pub among_more : (xs : List ℕ) (t q : ℕ) → among (xs ++ t ∷ []) q ≡ true → (among xs q ≡ true) ⊎ (t ≡ q)
among_more xs t q h =
    elim (or_cases (among xs q) (among (t ∷ []) q) (sym (list_any-append (λ o. o == q) xs (t ∷ [])) ∙ h)) [
      | inl e ↦ inl e
      | inr e ↦ elim (or_cases (t == q) false e) [ inl k ↦ inr (same_from t q k) | inr k ↦ absurd (cc) ]
    ]

pub apart_more : (xs : List ℕ) (t : ℕ) → IsDistinct eqb xs → among xs t ≡ false → IsDistinct eqb (xs ++ t ∷ [])
apart_more xs t apart absent = IsDistinct-push nat_eq_equiv xs t apart (sym (among_flip xs t) ∙ absent)

-- ---- one taken out

abbrev pub without : ℕ → List ℕ → List ℕ
without t xs = filter (λ o. not (o == t)) xs

-- the list of one task, without that one
pub alone_without : (t : ℕ) (xs : List ℕ) → length xs ≡ 1 → get_or xs 0 0 ≡ t → without t xs ≡ []
alone_without t [] long is = absurd (cc)
alone_without t (x ∷ []) long is = ap (λ b. cond (not b) (x ∷ []) []) (same x t is)
  where
    same : (a b : ℕ) → a ≡ b → (a == b) ≡ true
    same a b e = grind (arith, nat_tests)
alone_without t (x ∷ (y ∷ ys)) long is = absurd (cc)

pub taken_out : (t : ℕ) (xs : List ℕ) → among (without t xs) t ≡ false
taken_out t xs = any-filter_same (λ o. o == t) (λ o. not (o == t)) false (λ k e. ap not e) xs

not_same : (k q t : ℕ) → (k == q) ≡ true → q ≢ t → not (k == t) ≡ true
not_same k q t e ne = grind (arith, nat_tests)

pub others_left : (t q : ℕ) (xs : List ℕ) → q ≢ t → among (without t xs) q ≡ among xs q
others_left t q xs ne = any-filter_same (λ o. o == q) (λ o. not (o == t)) true (λ k e. not_same k q t e ne) xs

pub was_among : (t q : ℕ) (xs : List ℕ) → among (without t xs) q ≡ true → among xs q ≡ true
was_among t q xs h =
    elim (cases_eq q t) [
      | inl e ↦ let gone : among (without t xs) q ≡ false = rw e (taken_out t xs) in absurd (cc)
      | inr ne ↦ sym (others_left t q xs ne) ∙ h
    ]

all_cond : (x : ℕ) (b : Bool) (y : ℕ) (ys : List ℕ) → eqb x y ≡ false → AllByRecursion (λ z. eqb x z ≡ false) ys → AllByRecursion (λ z. eqb x z ≡ false) (cond b (y ∷ ys) ys)
all_cond x true y ys e h = (e, h)
all_cond x false y ys e h = h

all_without : (x t : ℕ) (xs : List ℕ) → AllByRecursion (λ y. eqb x y ≡ false) xs → AllByRecursion (λ y. eqb x y ≡ false) (without t xs)
all_without x t [] h = tt
all_without x t (y ∷ ys) h = all_cond x (not (y == t)) y (without t ys) h.0 (all_without x t ys h.1)

apart_cond : (b : Bool) (x : ℕ) (ys : List ℕ) → AllByRecursion (λ y. eqb x y ≡ false) ys → IsDistinct eqb ys → IsDistinct eqb (cond b (x ∷ ys) ys)
unfolding IsDistinct
apart_cond true x ys a h = (a, h)
apart_cond false x ys a h = h

pub apart_without : (t : ℕ) (xs : List ℕ) → IsDistinct eqb xs → IsDistinct eqb (without t xs)
unfolding IsDistinct
apart_without t [] h = tt
apart_without t (x ∷ xs) h = apart_cond (not (x == t)) x (without t xs) (all_without x t xs h.0) (apart_without t xs h.1)

-- ---- the places of a table that have a record

module _ {X : Type 0} where
  -- counted from n
  abbrev places : ℕ → List (Option X) → List ℕ
  places n [] = []
  places n (None ∷ xs) = places (suc n) xs
  places n (Some x ∷ xs) = n ∷ places (suc n) xs

  length-places : (n : ℕ) (xs : List (Option X)) → length (places n xs) ≡ count_by is_some xs
  length-places n [] = refl
  length-places n (None ∷ xs) = let s = sum_by-cons (λ (o : Option X). cond (is_some o) 1 0) None xs in let r = length-places (suc n) xs in omega (arith, s, r)
  length-places n (Some x ∷ xs) = let s = sum_by-cons (λ (o : Option X). cond (is_some o) 1 0) (Some x) xs in let r = length-places (suc n) xs in omega (arith, s, r)

  placed : (n i q : ℕ) (xs : List (Option X)) → q ≡ n + i → is_some (get_or xs i None) ≡ true → list_any (eqb q) (places n xs) ≡ true
  placed n i q [] e h = absurd (cc)
  placed n zero q (None ∷ xs) e h = absurd (cc)
  placed n (suc i) q (None ∷ xs) e h = placed (suc n) i q xs (omega (arith, e)) h
  placed n zero q (Some x ∷ xs) e h = or_left_same q n _ (omega (arith, e))
    where
      or_left_same : (a b : ℕ) (rest : Bool) → a ≡ b → (eqb a b || rest) ≡ true
      or_left_same a b rest e = grind (arith, nat_tests)
  placed n (suc i) q (Some x ∷ xs) e h = or_right (eqb q n) (list_any (eqb q) (places (suc n) xs)) (placed (suc n) i q xs (omega (arith, e)) h)

  -- different numbers of places with records are no more than the records
  pub few_from_apart : (out : List ℕ) (xs : List (Option X)) → IsDistinct eqb out → ((t : ℕ) → among out t ≡ true → is_some (get_or xs t None) ≡ true) → length out ≤ count_by is_some xs
  few_from_apart out xs apart stands =
      let few = length-le_from_is_member nat_eq_equiv out (places 0 xs) apart (λ q h. placed 0 q q xs (omega arith) (stands q (among_flip out q ∙ h))) in
      let long = length-places 0 xs in
      omega (arith, few, long)
