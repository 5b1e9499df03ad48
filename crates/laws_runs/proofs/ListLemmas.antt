-- Lists of tasks and scopes: a property of each element, after a write or with one element more.
use Rattle.std.proofs.Common.{◌≡◌, ℕ, zero, suc, ◌<◌, ◌≤◌, List, [], ◌∷◌, ◌++◌, Bool, true, false, refl, ap, length, arith, get_or, set, ◌||◌}
use Rattle.std.specs.List.{list_any}
use Rattle.std.proofs.lemmas.Bool.{or_parts}
pub use Rattle.laws_words.proofs.ListLemmas.{count-cons}

-- a property of the new element and of the old ones
pub at_set : {X : Type 0} (P : X → Type 0) (xs : List X) (i j : ℕ) (y d : X) → (j ≡ i → P y) → P (get_or xs j d) → P (get_or (set xs i y) j d)
at_set P [] i j y d new old = old
at_set P (x ∷ xs) zero zero y d new old = new refl
at_set P (x ∷ xs) zero (suc j) y d new old = old
at_set P (x ∷ xs) (suc i) zero y d new old = old
at_set P (x ∷ xs) (suc i) (suc j) y d new old = at_set P xs i j y d (λ e. new (ap suc e)) old

-- like the lemma before, if the old elements are those at other places
pub at_put : {X : Type 0} (P : X → Type 0) (xs : List X) (i j : ℕ) (y d : X) → i < length xs → (j ≡ i → P y) → ((j ≡ i → ⊥) → P (get_or xs j d)) → P (get_or (set xs i y) j d)
at_put P [] i j y d less new old = absurd (omega arith)
at_put P (x ∷ xs) zero zero y d less new old = new refl
at_put P (x ∷ xs) zero (suc j) y d less new old = old (λ e. absurd (omega (arith, e)))
at_put P (x ∷ xs) (suc i) zero y d less new old = old (λ e. absurd (omega (arith, e)))
at_put P (x ∷ xs) (suc i) (suc j) y d less new old = at_put P xs i j y d (omega (arith, less)) (λ e. new (ap suc e)) (λ never. old (λ e. never (omega (arith, e))))

-- a property of one element more and of the old ones
pub at_more : {X : Type 0} (P : X → Type 0) (xs : List X) (y : X) (j : ℕ) (d : X) → (j ≡ length xs → P y) → P (get_or xs j d) → P (get_or (xs ++ y ∷ []) j d)
at_more P [] y zero d new old = new refl
at_more P [] y (suc j) d new old = old
at_more P (x ∷ xs) y zero d new old = old
at_more P (x ∷ xs) y (suc j) d new old = at_more P xs y j d (λ e. new (ap suc e)) old

-- like the lemma before, if the old elements are those that were there
pub at_one_more : {X : Type 0} (P : X → Type 0) (xs : List X) (y : X) (j : ℕ) (d : X) → j < length (xs ++ y ∷ []) → P y → (j < length xs → P (get_or xs j d)) → P (get_or (xs ++ y ∷ []) j d)
at_one_more P [] y zero d less new old = new
at_one_more P [] y (suc j) d less new old = absurd (omega (arith, less))
at_one_more P (x ∷ xs) y zero d less new old = old (omega arith)
at_one_more P (x ∷ xs) y (suc j) d less new old = at_one_more P xs y j d (omega (arith, less)) new (λ h. old (omega (arith, h)))

-- past the end there is the default
pub past : {X : Type 0} (xs : List X) (i : ℕ) (d : X) → length xs ≤ i → get_or xs i d ≡ d
past [] i d h = refl
past (x ∷ xs) zero d h = absurd (omega arith)
past (x ∷ xs) (suc i) d h = past xs i d (omega arith)

-- if the default doesn't pass a test, only elements of the list do
pub within : {X : Type 0} (test : X → Bool) (xs : List X) (i : ℕ) (d : X) → test d ≡ false → test (get_or xs i d) ≡ true → i < length xs
within test [] i d none e = cc
within test (x ∷ xs) zero d none e = omega arith
within test (x ∷ xs) (suc i) d none e = let h = within test xs i d none e in omega (arith, h)

found_by : {X : Type 0} (test : X → Bool) (x : X) (xs : List X) (d : X) (b : Bool) → test x ≡ b → (test x || list_any test xs) ≡ true → (list_any test xs ≡ true → (u : ℕ) × (test (get_or xs u d) ≡ true)) → (u : ℕ) × (test (get_or (x ∷ xs) u d) ≡ true)
found_by test x xs d true h e next = (0, h)
found_by test x xs d false h e next = let r = next (rw h at e) in (suc r.0, r.1)

-- one of the elements passes the test
pub found : {X : Type 0} (test : X → Bool) (xs : List X) (d : X) → list_any test xs ≡ true → (u : ℕ) × (test (get_or xs u d) ≡ true)
found test [] d e = cc
found test (x ∷ xs) d e = found_by test x xs d (test x) refl e (λ r. found test xs d r)

-- if no element passes, this one doesn't
pub none_found : {X : Type 0} (test : X → Bool) (xs : List X) (u : ℕ) (d : X) → test d ≡ false → list_any test xs ≡ false → test (get_or xs u d) ≡ false
none_found test [] u d none e = none
none_found test (x ∷ xs) zero d none e = (or_parts (test x) _ e).0
none_found test (x ∷ xs) (suc u) d none e = none_found test xs u d none (or_parts (test x) _ e).1
