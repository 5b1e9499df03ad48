-- Walking along a list of keys.
use Rattle.std.proofs.Common.{◌≡◌, ◌≢◌, ℕ, zero, suc, ◌<◌, ◌≤◌, List, [], ◌∷◌, ◌++◌, length, Option, Some, None, refl, sym, ap, arith, Bool, true, false, length-append}
use Rattle.sts_links.specs.Lists.{first_or, AreDistinct, AreLinked, IsList}
use Rattle.laws_words.specs.Keys.{NotIn}
use Rattle.sts_links.specs.declared.links.Link.{Link}
use Rattle.sts_links.specs.declared.links.Ends.{Ends}
use Rattle.sts_links.proofs.KeyLemmas.{distinct_less}
use Rattle.laws_words.proofs.KeyLemmas.{not_front, not_back, not_both}
use Rattle.sts_tree.specs.Births.{has}
use Rattle.sts_tree.specs.Stored.{walk}
use Rattle.sts_tree.proofs.KeyLemmas.{has_not, split}

-- the keys of a list are those of a walk of n steps
walks : (at : ℕ → Option Link) (n : ℕ) (p : Option ℕ) (xs : List ℕ) → AreLinked at p xs None → length xs ≤ n → walk at n (first_or xs None) ≡ xs
walks at zero p [] a le = refl
walks at zero p (x ∷ xs) a le = absurd (omega arith)
walks at (suc n) p [] a le = refl
walks at (suc n) p (x ∷ xs) a le = rw a.0 (ap (λ l. x ∷ l) (walks at n (Some x) xs a.1 (omega arith)))

pub walk_is : (at : ℕ → Option Link) (n : ℕ) (list : Ends) (keys : List ℕ) → IsList at list keys → length keys ≤ n → walk at n list.first ≡ keys
walk_is at n list keys is le = rw is.first (walks at n None keys is.linked le)

-- a key that comes once isn't among the others
taken : (k : ℕ) (front back : List ℕ) → AreDistinct (front ++ k ∷ back) → NotIn k (front ++ back)
taken k [] back d = d.0
taken k (x ∷ front) back d = ((λ e. (not_back x front (k ∷ back) d.0).0 (sym e)), taken k front back d.1)

-- distinct keys below n are no more than n
all_below : (n k : ℕ) (front back : List ℕ) → ((j : ℕ) → (NotIn j (front ++ k ∷ back) → ⊥) → j < suc n) → k ≡ n → AreDistinct (front ++ k ∷ back) → (j : ℕ) → (NotIn j (front ++ back) → ⊥) → j < n
all_below n k front back h e d j inside =
    let l : j < suc n = h j (λ q. inside (not_both j front back (not_front j front (k ∷ back) q) (not_back j front (k ∷ back) q).1)) in
    let ne : j ≢ n = λ q. inside (rw (q, ← e) (taken k front back d)) in
    omega arith

pub few : (n : ℕ) (xs : List ℕ) → AreDistinct xs → ((j : ℕ) → (NotIn j xs → ⊥) → j < n) → length xs ≤ n
few zero [] d h = omega arith
few zero (x ∷ xs) d h = let l = h x (λ q. q.0 refl) in absurd (omega (arith, l))
few (suc n) xs d h = by (has n xs) refl (few n)
  where
    by : (b : Bool) → has n xs ≡ b → ((ys : List ℕ) → AreDistinct ys → ((j : ℕ) → (NotIn j ys → ⊥) → j < n) → length ys ≤ n) → length xs ≤ suc n
    by true e next =
        let s = split n xs e in
        let d2 : AreDistinct (s.front ++ n ∷ s.back) = rw s.all_are at d in
        let h2 : (j : ℕ) → (NotIn j (s.front ++ n ∷ s.back) → ⊥) → j < suc n = rw s.all_are at h in
        let r = next (s.front ++ s.back) (distinct_less s.front n s.back d2) (all_below n n s.front s.back h2 refl d2) in
        let a = length-append s.front (n ∷ s.back) in
        let b = length-append s.front s.back in
        rw s.all_are (omega (arith, a, b, r))
    by false e next =
        let not = has_not n xs e in
        let r = next xs d (λ j inside. let l = h j inside in let ne : j ≢ n = λ q. inside (rw q not) in omega (arith, l, ne)) in
        omega (arith, r)
