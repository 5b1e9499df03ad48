-- Lists of keys: which keys are in them, and their two ends.
use Rattle.std.proofs.Common.{◌≡◌, ◌≢◌, ℕ, List, [], ◌∷◌, ◌++◌, Option, Some, None, refl, sym, ◌∙◌, append-nil}
use Rattle.std.specs.List.{last_or}
use Rattle.sts_links.specs.Lists.{first_or, AreDistinct, AreApart, if_none}
use Rattle.laws_words.specs.Keys.{NotIn}
use Rattle.laws_words.proofs.KeyLemmas.{not_front, not_back, not_both}

-- the last of some keys is one of them
pub last_not : (k y : ℕ) (ys : List ℕ) (p : Option ℕ) → NotIn k (y ∷ ys) → last_or p (y ∷ ys) ≢ Some k
last_not k y [] p h e = h.0 (cc)
last_not k y (z ∷ zs) p h e = last_not k z zs (Some y) h.1 e

pub distinct_front : (xs ys : List ℕ) → AreDistinct (xs ++ ys) → AreDistinct xs
distinct_front [] ys d = tt
distinct_front (x ∷ xs) ys d = (not_front x xs ys d.0, distinct_front xs ys d.1)

pub distinct_back : (xs ys : List ℕ) → AreDistinct (xs ++ ys) → AreDistinct ys
distinct_back [] ys d = d
distinct_back (x ∷ xs) ys d = distinct_back xs ys d.1

-- one key less
pub distinct_less : (xs : List ℕ) (k : ℕ) (ys : List ℕ) → AreDistinct (xs ++ k ∷ ys) → AreDistinct (xs ++ ys)
distinct_less [] k ys d = d.1
distinct_less (x ∷ xs) k ys d =
    (not_both x xs ys (not_front x xs (k ∷ ys) d.0) (not_back x xs (k ∷ ys) d.0).1, distinct_less xs k ys d.1)

-- one key more
pub distinct_more : (xs : List ℕ) (k : ℕ) → AreDistinct xs → NotIn k xs → AreDistinct (xs ++ k ∷ [])
distinct_more [] k d h = (tt, tt)
distinct_more (x ∷ xs) k d h =
    (not_both x xs (k ∷ []) d.0 (λ e. h.0 (sym e), tt), distinct_more xs k d.1 h.1)

-- a key in the back is not in the front
pub apart : (k : ℕ) (xs ys : List ℕ) → AreDistinct (xs ++ ys) → (NotIn k ys → ⊥) → NotIn k xs
apart k [] ys d inside = tt
apart k (x ∷ xs) ys d inside =
    (λ e. inside (rw e (not_back x xs ys d.0)), apart k xs ys d.1 inside)

pub head_not : (k : ℕ) (xs : List ℕ) → NotIn k xs → first_or xs None ≢ Some k
head_not k [] h e = cc
head_not k (x ∷ xs) h e = h.0 (cc)

pub last_none : (k : ℕ) (xs : List ℕ) → NotIn k xs → last_or None xs ≢ Some k
last_none k [] h e = cc
last_none k (x ∷ xs) h e = last_not k x xs None h e

pub last_more : (p : Option ℕ) (xs : List ℕ) (k : ℕ) → Some k ≡ last_or p (xs ++ k ∷ [])
last_more p [] k = refl
last_more p (x ∷ xs) k = last_more (Some x) xs k

pub first_more : (o : Option ℕ) (xs : List ℕ) (k : ℕ) → o ≡ first_or xs None → if_none o (Some k) o ≡ first_or (xs ++ k ∷ []) None
first_more o [] k e = rw e refl
first_more o (x ∷ xs) k e = rw e refl

pub some_last : (x : ℕ) (xs : List ℕ) (a o : Option ℕ) → if_none (last_or (Some x) xs) a o ≡ o
some_last x [] a o = refl
some_last x (y ∷ ys) a o = some_last y ys a o

pub first_less : (o : Option ℕ) (xs : List ℕ) (k : ℕ) (ys : List ℕ) → o ≡ first_or (xs ++ k ∷ ys) None → if_none (last_or None xs) (first_or ys None) o ≡ first_or (xs ++ ys) None
first_less o [] k ys e = refl
first_less o (x ∷ xs) k ys e = some_last x xs (first_or ys None) o ∙ e

pub last_append : (p : Option ℕ) (xs ys : List ℕ) → last_or p (xs ++ ys) ≡ last_or (last_or p xs) ys
last_append p [] ys = refl
last_append p (x ∷ xs) ys = last_append (Some x) xs ys

pub last_less : (o : Option ℕ) (xs : List ℕ) (k : ℕ) (ys : List ℕ) → o ≡ last_or None (xs ++ k ∷ ys) → if_none (first_or ys None) (last_or None xs) o ≡ last_or None (xs ++ ys)
last_less o xs k [] e = rw append-nil refl
last_less o xs k (y ∷ ys) e = e ∙ last_append None xs (k ∷ y ∷ ys) ∙ sym (last_append None xs (y ∷ ys))

-- a key that is in one list is in none that is apart from it
pub apart_key : (k : ℕ) (xs ys : List ℕ) → AreApart xs ys → (NotIn k xs → ⊥) → NotIn k ys
apart_key k xs [] a inside = tt
apart_key k xs (y ∷ ys) a inside = ((λ e. inside (rw e a.0)), apart_key k xs ys a.1 inside)
