-- Births with a record that passes a test, when a record is added, changed or taken out.
use Rattle.std.proofs.Common.{◌≡◌, ℕ, zero, suc, ◌+◌, ◌<◌, ◌≤◌, List, [], ◌∷◌, ◌++◌, length, Option, Some, None, refl, sym, ap, arith, get_or, set, Bool, true, false, cond, is_some, count_by, subst, add-zero}
use Rattle.std.proofs.lemmas.List.Sums.{sum_by-cons}
use Rattle.sts_links.specs.Lists.{AreApart}
use Rattle.laws_words.specs.Keys.{NotIn}
use Rattle.sts_tree.specs.Births.{births}

pub suc_more : (n k : ℕ) → n + suc k ≡ suc n + k
suc_more n k = omega arith

apart_by : (xs ys : List ℕ) → ((k : ℕ) → (NotIn k ys → ⊥) → NotIn k xs) → AreApart xs ys
apart_by xs [] h = tt
apart_by xs (y ∷ ys) h = (h y (λ n. n.0 refl), apart_by xs ys (λ k inside. h k (λ n. inside n.1)))

-- one birth fewer
pub record OneLess (all fewer : List ℕ) (k : ℕ) : Type 0 where
  pub front : List ℕ
  pub back : List ℕ
  pub all_are : all ≡ front ++ k ∷ back
  pub fewer_are : fewer ≡ front ++ back

before : (k n : ℕ) (all fewer : List ℕ) → OneLess all fewer k → OneLess (n ∷ all) (n ∷ fewer) k
before k n all fewer o = record { front = n ∷ o.front; back = o.back; all_are = ap (λ l. n ∷ l) o.all_are; fewer_are = ap (λ l. n ∷ l) o.fewer_are }

one_less : (front back : List ℕ) (k : ℕ) → OneLess (front ++ k ∷ back) (front ++ back) k
one_less front back k = record { front = front; back = back; all_are = refl; fewer_are = refl }

module _ {T : Type 0} where
  pub yes : (p : T → Bool) (n : ℕ) (x : T) (xs : List (Option T)) → p x ≡ true → births p n (Some x ∷ xs) ≡ n ∷ births p (suc n) xs
  yes p n x xs e = rw e refl

  pub no : (p : T → Bool) (n : ℕ) (x : T) (xs : List (Option T)) → p x ≡ false → births p n (Some x ∷ xs) ≡ births p (suc n) xs
  no p n x xs e = rw e refl

  -- one more record at the end
  pub births_more : (p : T → Bool) (n : ℕ) (xs : List (Option T)) (o : Option T) → births p n (xs ++ o ∷ []) ≡ births p n xs ++ births p (n + length xs) (o ∷ [])
  births_more p n [] o = rw (add-zero n) refl
  births_more p n (None ∷ xs) o = rw (suc_more n (length xs)) (births_more p (suc n) xs o)
  births_more p n (Some x ∷ xs) o = by (p x) refl (births_more p (suc n) xs o)
    where
      by : (b : Bool) → p x ≡ b → births p (suc n) (xs ++ o ∷ []) ≡ births p (suc n) xs ++ births p (suc n + length xs) (o ∷ []) → births p n (Some x ∷ (xs ++ o ∷ [])) ≡ births p n (Some x ∷ xs) ++ births p (n + suc (length xs)) (o ∷ [])
      by true e r = rw (e, suc_more n (length xs)) (ap (λ l. n ∷ l) r)
      by false e r = rw (e, suc_more n (length xs)) r

  -- a record is changed, but not the answer of the test
  pub births_kept : (p : T → Bool) (n : ℕ) (xs : List (Option T)) (i : ℕ) (x y : T) → get_or xs i None ≡ Some x → p y ≡ p x → births p n (set xs i (Some y)) ≡ births p n xs
  births_kept p n [] i x y at e = refl
  births_kept p n (o ∷ xs) zero x y at e = rw (at, e) refl
  births_kept p n (None ∷ xs) (suc i) x y at e = births_kept p (suc n) xs i x y at e
  births_kept p n (Some z ∷ xs) (suc i) x y at e = rw (births_kept p (suc n) xs i x y at e) refl

  -- none meets the test
  pub births_none : (p : T → Bool) (n : ℕ) (xs : List (Option T)) → ((k : ℕ) (x : T) → get_or xs k None ≡ Some x → p x ≡ false) → births p n xs ≡ []
  births_none p n [] h = refl
  births_none p n (None ∷ xs) h = births_none p (suc n) xs (λ k x e. h (suc k) x e)
  births_none p n (Some x ∷ xs) h = rw (h 0 x refl) (births_none p (suc n) xs (λ k x e. h (suc k) x e))

  -- one birth fewer
  pub births_less : (p : T → Bool) (n : ℕ) (xs : List (Option T)) (i : ℕ) (x y : T) → get_or xs i None ≡ Some x → p x ≡ true → p y ≡ false → OneLess (births p n xs) (births p n (set xs i (Some y))) (n + i)
  births_less p n [] i x y at e f = cc
  births_less p n (o ∷ xs) zero x y at e f = rw (at, e, f, add-zero n) (one_less [] (births p (suc n) xs) n)
  births_less p n (None ∷ xs) (suc i) x y at e f = rw (suc_more n i) (births_less p (suc n) xs i x y at e f)
  births_less p n (Some z ∷ xs) (suc i) x y at e f = by (p z) refl (births_less p (suc n) xs i x y at e f)
    where
      by : (b : Bool) → p z ≡ b → OneLess (births p (suc n) xs) (births p (suc n) (set xs i (Some y))) (suc n + i) → OneLess (births p n (Some z ∷ xs)) (births p n (Some z ∷ set xs i (Some y))) (n + suc i)
      by true q o = rw (q, suc_more n i) (before (suc n + i) n _ _ o)
      by false q o = rw (q, suc_more n i) o

  -- which births are in the list
  above : (p : T → Bool) (m : ℕ) (xs : List (Option T)) (k : ℕ) → k < m → NotIn k (births p m xs)
  above p m [] k less = tt
  above p m (None ∷ xs) k less = above p (suc m) xs k (omega arith)
  above p m (Some x ∷ xs) k less = by (p x) refl (above p (suc m) xs k (omega arith))
    where
      by : (b : Bool) → p x ≡ b → NotIn k (births p (suc m) xs) → NotIn k (births p m (Some x ∷ xs))
      by true e r = rw e ((λ q. absurd (omega arith)), r)
      by false e r = rw e r

  not_from : (p : T → Bool) (n : ℕ) (xs : List (Option T)) (k : ℕ) → ((x : T) → get_or xs k None ≡ Some x → p x ≡ false) → NotIn (n + k) (births p n xs)
  not_from p n [] k h = tt
  not_from p n (None ∷ xs) zero h = above p (suc n) xs (n + 0) (omega arith)
  not_from p n (Some x ∷ xs) zero h = rw (h x refl) (above p (suc n) xs (n + 0) (omega arith))
  not_from p n (None ∷ xs) (suc k) h = rw (suc_more n k) (not_from p (suc n) xs k h)
  not_from p n (Some x ∷ xs) (suc k) h = by (p x) refl (not_from p (suc n) xs k h)
    where
      by : (b : Bool) → p x ≡ b → NotIn (suc n + k) (births p (suc n) xs) → NotIn (n + suc k) (births p n (Some x ∷ xs))
      by true e r = rw e ((λ q. absurd (omega arith)), subst (λ j. NotIn j (births p (suc n) xs)) (sym (suc_more n k)) r)
      by false e r = rw (e, suc_more n k) r

  pub not_in : (p : T → Bool) (xs : List (Option T)) (k : ℕ) → ((x : T) → get_or xs k None ≡ Some x → p x ≡ false) → NotIn k (births p 0 xs)
  not_in p xs k h = let e : 0 + k ≡ k = omega arith in rw e at (not_from p 0 xs k h)

  in_from : (p : T → Bool) (n : ℕ) (xs : List (Option T)) (k : ℕ) (x : T) → get_or xs k None ≡ Some x → p x ≡ true → NotIn (n + k) (births p n xs) → ⊥
  in_from p n [] k x at e h = cc
  in_from p n (o ∷ xs) zero x at e h = let g : NotIn (n + 0) (n ∷ births p (suc n) xs) = rw (at, e) at h in g.0 (omega arith)
  in_from p n (None ∷ xs) (suc k) x at e h = in_from p (suc n) xs k x at e (rw (suc_more n k) at h)
  in_from p n (Some z ∷ xs) (suc k) x at e h = by (p z) refl (rw (suc_more n k) at h) (in_from p (suc n) xs k x at e)
    where
      by : (b : Bool) → p z ≡ b → NotIn (suc n + k) (births p n (Some z ∷ xs)) → (NotIn (suc n + k) (births p (suc n) xs) → ⊥) → ⊥
      by true q g r = let f : NotIn (suc n + k) (n ∷ births p (suc n) xs) = rw q at g in r f.1
      by false q g r = r (rw q at g)

  pub is_in : (p : T → Bool) (xs : List (Option T)) (k : ℕ) (x : T) → get_or xs k None ≡ Some x → p x ≡ true → NotIn k (births p 0 xs) → ⊥
  is_in p xs k x at e h = let q : 0 + k ≡ k = omega arith in in_from p 0 xs k x at e (rw q h)

  -- no record meets both tests
  pub births_apart : (p q : T → Bool) (xs : List (Option T)) → ((x : T) → q x ≡ true → p x ≡ false) → AreApart (births p 0 xs) (births q 0 xs)
  births_apart p q xs h =
      apart_by (births p 0 xs) (births q 0 xs)
      (λ k inside. not_in p xs k (λ x at. by k x (p x) (q x) refl refl at inside))
    where
      by : (k : ℕ) (x : T) (a b : Bool) → p x ≡ a → q x ≡ b → get_or xs k None ≡ Some x → (NotIn k (births q 0 xs) → ⊥) → p x ≡ false
      by k x false b e f at inside = e
      by k x true true e f at inside = h x f
      by k x true false e f at inside = absurd (inside (not_in q xs k (λ z at_z. let s : z ≡ x = cc in rw s f)))

  -- no more births than records
  pub births_few : (p : T → Bool) (n : ℕ) (xs : List (Option T)) → length (births p n xs) ≤ count_by is_some xs
  births_few p n [] = omega arith
  births_few p n (None ∷ xs) = let s = sum_by-cons (λ o. cond (is_some o) 1 0) None xs in omega (arith, births_few p (suc n) xs, s)
  births_few p n (Some x ∷ xs) = by (p x) refl (births_few p (suc n) xs)
    where
      by : (b : Bool) → p x ≡ b → length (births p (suc n) xs) ≤ count_by is_some xs → length (births p n (Some x ∷ xs)) ≤ count_by is_some (Some x ∷ xs)
      by true e r = let s = sum_by-cons (λ o. cond (is_some o) 1 0) (Some x) xs in rw e (omega (arith, r, s))
      by false e r = let s = sum_by-cons (λ o. cond (is_some o) 1 0) (Some x) xs in rw e (omega (arith, r, s))
