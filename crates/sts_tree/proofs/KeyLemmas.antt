-- Lists of births without repetition: one more, one less.
use Rattle.std.proofs.Common.{◌≡◌, ◌≢◌, ℕ, List, [], ◌∷◌, ◌++◌, refl, sym, ◌∙◌, ap, arith, Bool, true, false, nat_eq}
use Rattle.std.proofs.lemmas.Bool.Decides.{nat_tests}
use Rattle.sts_links.specs.Lists.{AreDistinct}
use Rattle.laws_words.specs.Keys.{NotIn}
use Rattle.sts_tree.specs.Births.{has, without}

pub same_key : (k : ℕ) → nat_eq k k ≡ true
same_key k = grind (arith, nat_tests)

other_key : (k x : ℕ) → k ≢ x → nat_eq k x ≡ false
other_key k x h = grind (arith, nat_tests)

pub has_not : (k : ℕ) (xs : List ℕ) → has k xs ≡ false → NotIn k xs
has_not k [] e = tt
has_not k (x ∷ xs) e = by (nat_eq k x) refl (has_not k xs)
  where
    by : (b : Bool) → nat_eq k x ≡ b → (has k xs ≡ false → NotIn k xs) → NotIn k (x ∷ xs)
    by true q r = let f : true ≡ false = rw q at e in cc
    by false q r = (grind (arith, nat_tests), r (rw q at e))

pub not_has : (k : ℕ) (xs : List ℕ) → NotIn k xs → has k xs ≡ false
not_has k [] h = refl
not_has k (x ∷ xs) h = rw (other_key k x h.0) (not_has k xs h.1)

pub has_new : (k : ℕ) (xs : List ℕ) → has k (xs ++ k ∷ []) ≡ true
has_new k [] = rw (same_key k) refl
has_new k (x ∷ xs) = by (nat_eq k x) refl (has_new k xs)
  where
    by : (b : Bool) → nat_eq k x ≡ b → has k (xs ++ k ∷ []) ≡ true → has k (x ∷ (xs ++ k ∷ [])) ≡ true
    by true q r = rw q refl
    by false q r = rw q r

pub has_old : (k y : ℕ) (xs : List ℕ) → k ≢ y → has k (xs ++ y ∷ []) ≡ has k xs
has_old k y [] h = rw (other_key k y h) refl
has_old k y (x ∷ xs) h = rw (has_old k y xs h) refl

pub record Split (k : ℕ) (xs : List ℕ) : Type 0 where
  pub front : List ℕ
  pub back : List ℕ
  pub all_are : xs ≡ front ++ k ∷ back
  pub fewer_are : without k xs ≡ front ++ back

pub split : (k : ℕ) (xs : List ℕ) → has k xs ≡ true → Split k xs
split k [] e = cc
split k (x ∷ xs) e = by (nat_eq k x) refl (split k xs)
  where
    by : (b : Bool) → nat_eq k x ≡ b → (has k xs ≡ true → Split k xs) → Split k (x ∷ xs)
    by true q next = let s : x ≡ k = grind (arith, nat_tests) in record { front = []; back = xs; all_are = rw s refl; fewer_are = rw q refl }
    by false q next =
        let r = next (rw q at e) in
        record { front = x ∷ r.front; back = r.back; all_are = ap (λ l. x ∷ l) r.all_are; fewer_are = rw q (ap (λ l. x ∷ l) r.fewer_are) }

pub without_other : (k y : ℕ) (xs : List ℕ) → k ≢ y → has k (without y xs) ≡ has k xs
without_other k y [] h = refl
without_other k y (x ∷ xs) h = by (nat_eq y x) refl (without_other k y xs h)
  where
    by : (b : Bool) → nat_eq y x ≡ b → has k (without y xs) ≡ has k xs → has k (without y (x ∷ xs)) ≡ has k (x ∷ xs)
    by true q r = let s : y ≡ x = grind (arith, nat_tests) in rw q (rw (other_key k x (λ e. h (e ∙ sym s))) refl)
    by false q r = rw q (rw r refl)

pub without_own : (y : ℕ) (xs : List ℕ) → AreDistinct xs → has y (without y xs) ≡ false
without_own y [] d = refl
without_own y (x ∷ xs) d = by (nat_eq y x) refl (without_own y xs d.1)
  where
    by : (b : Bool) → nat_eq y x ≡ b → has y (without y xs) ≡ false → has y (without y (x ∷ xs)) ≡ false
    by true q r = let s : y ≡ x = grind (arith, nat_tests) in rw q (rw s (not_has x xs d.0))
    by false q r = rw q (rw q r)
