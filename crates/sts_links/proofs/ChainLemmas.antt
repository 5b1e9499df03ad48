-- Keys that are linked both ways: cut, joined, and with one link changed.
use Rattle.std.proofs.Common.{◌≡◌, ◌≢◌, ℕ, List, [], ◌∷◌, ◌++◌, Option, Some, None, refl, sym, ◌∙◌}
use Rattle.std.specs.List.{last_or}
use Rattle.sts_links.specs.Lists.{first_or, AreDistinct, AreLinked, IsList, with_after, with_before}
use Rattle.laws_words.specs.Keys.{NotIn}
use Rattle.sts_links.specs.declared.links.Link.{Link}
use Rattle.sts_links.specs.declared.links.Ends.{Ends}
use Rattle.sts_links.proofs.KeyLemmas.{last_not}

pub joined : (at : ℕ → Option Link) (p : Option ℕ) (xs ys : List ℕ) (n : Option ℕ) → AreLinked at p xs (first_or ys n) → AreLinked at (last_or p xs) ys n → AreLinked at p (xs ++ ys) n
joined at p [] ys n a b = b
joined at p (x ∷ []) ys n a b = (a.0, b)
joined at p (x ∷ y ∷ xs) ys n a b = (a.0, joined at (Some x) (y ∷ xs) ys n a.1 b)

pub front_of : (at : ℕ → Option Link) (p : Option ℕ) (xs ys : List ℕ) (n : Option ℕ) → AreLinked at p (xs ++ ys) n → AreLinked at p xs (first_or ys n)
front_of at p [] ys n a = tt
front_of at p (x ∷ []) ys n a = (a.0, tt)
front_of at p (x ∷ y ∷ xs) ys n a = (a.0, front_of at (Some x) (y ∷ xs) ys n a.1)

pub back_of : (at : ℕ → Option Link) (p : Option ℕ) (xs ys : List ℕ) (n : Option ℕ) → AreLinked at p (xs ++ ys) n → AreLinked at (last_or p xs) ys n
back_of at p [] ys n a = a
back_of at p (x ∷ xs) ys n a = back_of at (Some x) xs ys n a.1

-- links that stay
pub stays : (at new : ℕ → Option Link) (p : Option ℕ) (xs : List ℕ) (n : Option ℕ) → ((k : ℕ) → (NotIn k xs → ⊥) → new k ≡ at k) → AreLinked at p xs n → AreLinked new p xs n
stays at new p [] n same a = tt
stays at new p (x ∷ xs) n same a =
    (same x (λ h. h.0 refl) ∙ a.0, stays at new (Some x) xs n (λ k inside. same k (λ h. inside h.1)) a.1)

-- the last key gets another neighbour after it
pub relast : (at new : ℕ → Option Link) (p : Option ℕ) (xs : List ℕ) (n next : Option ℕ) → AreDistinct xs → AreLinked at p xs n → ((k : ℕ) (link : Link) → last_or p xs ≡ Some k → at k ≡ Some link → (NotIn k xs → ⊥) → new k ≡ Some (with_after next link)) → ((k : ℕ) → (NotIn k xs → ⊥) → last_or p xs ≢ Some k → new k ≡ at k) → AreLinked new p xs next
relast at new p [] n next d a changed same = tt
relast at new p (x ∷ []) n next d a changed same = (changed x _ refl a.0 (λ h. h.0 refl), tt)
relast at new p (x ∷ y ∷ xs) n next d a changed same = (
  same x (λ h. h.0 refl) (last_not x y xs (Some x) d.0) ∙ a.0,
  relast at new (Some x) (y ∷ xs) n next d.1 a.1 (λ k link e l inside. changed k link e l (λ h. inside h.1)) (λ k inside ne. same k (λ h. inside h.1) ne),
)

-- the first key gets another neighbour before it
pub rehead : (at new : ℕ → Option Link) (p prev : Option ℕ) (xs : List ℕ) (n : Option ℕ) → AreDistinct xs → AreLinked at p xs n → ((k : ℕ) (link : Link) → first_or xs None ≡ Some k → at k ≡ Some link → new k ≡ Some (with_before prev link)) → ((k : ℕ) → (NotIn k xs → ⊥) → first_or xs None ≢ Some k → new k ≡ at k) → AreLinked new prev xs n
rehead at new p prev [] n d a changed same = tt
rehead at new p prev (x ∷ xs) n d a changed same = (
  changed x _ refl a.0,
  stays at new (Some x) xs n (λ k inside. same k (λ h. inside h.1) (λ e. inside (let q : k ≡ x = cc in rw q d.0))) a.1,
)

-- the link of a key in a list, and the links of its neighbours
pub last_is : (at : ℕ → Option Link) (p : Option ℕ) (x : ℕ) (xs : List ℕ) (n : Option ℕ) (k : ℕ) → AreLinked at p (x ∷ xs) n → last_or p (x ∷ xs) ≡ Some k → at k ≢ None
last_is at p x [] n k a e none = let f = a.0 in let q : x ≡ k = cc in cc
last_is at p x (y ∷ ys) n k a e none = last_is at (Some x) y ys n k a.1 e none

pub last_link : (at : ℕ → Option Link) (xs : List ℕ) (n : Option ℕ) (k : ℕ) → AreLinked at None xs n → last_or None xs ≡ Some k → at k ≢ None
last_link at [] n k a e none = cc
last_link at (x ∷ xs) n k a e none = last_is at None x xs n k a e none

pub head_link : (at : ℕ → Option Link) (p : Option ℕ) (xs : List ℕ) (n : Option ℕ) (k : ℕ) → AreLinked at p xs n → first_or xs None ≡ Some k → at k ≢ None
head_link at p [] n k a e none = cc
head_link at p (x ∷ xs) n k a e none = let f = a.0 in let q : x ≡ k = cc in cc

pub key_link : (at : ℕ → Option Link) (list : Ends) (front : List ℕ) (key : ℕ) (back : List ℕ) → IsList at list (front ++ key ∷ back) → at key ≢ None
key_link at list front key back is none = let here = (back_of at None front (key ∷ back) None is.linked) in let e = here.0 in cc

pub before_link : (at : ℕ → Option Link) (list : Ends) (front : List ℕ) (key : ℕ) (back : List ℕ) (link : Link) (k : ℕ) → IsList at list (front ++ key ∷ back) → at key ≡ Some link → link.before ≡ Some k → at k ≢ None
before_link at list front key back link k is e q =
    let here = (back_of at None front (key ∷ back) None is.linked) in
    let before : link.before ≡ last_or None front = let f = here.0 in cc in
    last_link at front _ k (front_of at None front (key ∷ back) None is.linked) (sym before ∙ q)

-- what comes after a key in its list
pub after_in : (at : ℕ → Option Link) (list : Ends) (front : List ℕ) (key : ℕ) (back : List ℕ) (link : Link) → IsList at list (front ++ key ∷ back) → at key ≡ Some link → link.after ≡ first_or back None
after_in at list front key back link is e = let here = (back_of at None front (key ∷ back) None is.linked) in let f = here.0 in cc

-- a key without a link is in no list
pub without_link : (at : ℕ → Option Link) (k : ℕ) (p : Option ℕ) (xs : List ℕ) (n : Option ℕ) → at k ≡ None → AreLinked at p xs n → NotIn k xs
without_link at k p [] n none a = tt
without_link at k p (x ∷ xs) n none a = ((λ e. let f = a.0 in let q : at k ≡ at x = rw e refl in cc), without_link at k (Some x) xs n none a.1)

-- a list of keys with unchanged links
pub list_stays : (at new : ℕ → Option Link) (list : Ends) (keys : List ℕ) → ((k : ℕ) → (NotIn k keys → ⊥) → new k ≡ at k) → IsList at list keys → IsList new list keys
list_stays at new list keys same is = record { first = is.first; last = is.last; linked = stays at new None keys None same is.linked; distinct = is.distinct }
