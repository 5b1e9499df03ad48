-- Two lists element by element, places, and filters.
use Rattle.std.proofs.Common.{◌≡◌, ℕ, zero, suc, ◌+◌, ◌<◌, inl, inr, List, [], ◌∷◌, ◌++◌, Bool, true, false, Some, refl, sym, ◌∙◌, ap, subst, length, arith}
use Rattle.std.proofs.Common.{get_or, set, cond, map, drop, ◌||◌}
use Rattle.std.specs.Prelude.{◌==◌, slice_get}
use Rattle.std.specs.List.{filter, range_with_len, list_any}
use Rattle.std.proofs.lemmas.Bool.Decides.{nat_tests}
use Rattle.std.proofs.lemmas.Option.{same_Some}
use Rattle.sts_model.specs.declared.event.End.{End}
use Rattle.laws_calls.specs.Tasks.{Among, AllTwo, at_place, put_place, Way, HasWay}

pub no : true ≡ false → ⊥
no e = cc

-- ---- two lists

pub all_map : {X Y : Type 0} (R S : X → Y → Type 0) (xs : List X) (ys : List Y) → ((x : X) (y : Y) → Among xs x → R x y → S x y) → AllTwo R xs ys → AllTwo S xs ys
all_map R S [] [] f h = tt
all_map R S (x ∷ xs) (y ∷ ys) f h = (f x y (inl refl) h.0, all_map R S xs ys (λ a b at. f a b (inr at)) h.1)
all_map R S [] (y ∷ ys) f h = absurd h
all_map R S (x ∷ xs) [] f h = absurd h

pub all_length : {X Y : Type 0} (R : X → Y → Type 0) (xs : List X) (ys : List Y) → AllTwo R xs ys → length xs ≡ length ys
all_length R [] [] h = refl
all_length R (x ∷ xs) (y ∷ ys) h = ap suc (all_length R xs ys h.1)
all_length R [] (y ∷ ys) h = absurd h
all_length R (x ∷ xs) [] h = absurd h

pub all_tail : {X Y : Type 0} (R : X → Y → Type 0) (x : X) (xs : List X) (ys : List Y) → AllTwo R (x ∷ xs) ys → AllTwo R xs (drop 1 ys)
all_tail R x xs [] h = absurd h
all_tail R x xs (y ∷ ys) h = h.1

pub all_append : {X Y : Type 0} (R : X → Y → Type 0) (xs : List X) (ys : List Y) (us : List X) (vs : List Y) → AllTwo R xs ys → AllTwo R us vs → AllTwo R (xs ++ us) (ys ++ vs)
all_append R [] [] us vs h k = k
all_append R (x ∷ xs) (y ∷ ys) us vs h k = (h.0, all_append R xs ys us vs h.1 k)
all_append R [] (y ∷ ys) us vs h k = absurd h
all_append R (x ∷ xs) [] us vs h k = absurd h

pub all_mapped : {X Y A B : Type 0} (R : X → Y → Type 0) (S : A → B → Type 0) (f : X → A) (g : Y → B) (xs : List X) (ys : List Y) → ((x : X) (y : Y) → R x y → S (f x) (g y)) → AllTwo R xs ys → AllTwo S (map f xs) (map g ys)
all_mapped R S f g [] [] each h = tt
all_mapped R S f g (x ∷ xs) (y ∷ ys) each h = (each x y h.0, all_mapped R S f g xs ys each h.1)
all_mapped R S f g [] (y ∷ ys) each h = absurd h
all_mapped R S f g (x ∷ xs) [] each h = absurd h

pub all_right : {X Y : Type 0} (R S : X → Y → Type 0) (g : Y → Y) (xs : List X) (ys : List Y) → ((x : X) (y : Y) → Among xs x → R x y → S x (g y)) → AllTwo R xs ys → AllTwo S xs (map g ys)
all_right R S g [] [] each h = tt
all_right R S g (x ∷ xs) (y ∷ ys) each h = (each x y (inl refl) h.0, all_right R S g xs ys (λ a b at. each a b (inr at)) h.1)
all_right R S g [] (y ∷ ys) each h = absurd h
all_right R S g (x ∷ xs) [] each h = absurd h

pub all_set : {X Y : Type 0} (R : X → Y → Type 0) (xs : List X) (ys : List Y) (i : ℕ) (x : X) (y : Y) → AllTwo R xs ys → R x y → AllTwo R (set xs i x) (set ys i y)
all_set R [] [] i x y h k = tt
all_set R (a ∷ xs) (b ∷ ys) zero x y h k = (k, h.1)
all_set R (a ∷ xs) (b ∷ ys) (suc i) x y h k = (h.0, all_set R xs ys i x y h.1 k)
all_set R [] (b ∷ ys) i x y h k = absurd h
all_set R (a ∷ xs) [] i x y h k = absurd h

pub all_get : {X Y : Type 0} (R : X → Y → Type 0) (xs : List X) (ys : List Y) (i : ℕ) (d : X) (e : Y) → AllTwo R xs ys → R d e → R (get_or xs i d) (get_or ys i e)
all_get R [] [] i d e h k = k
all_get R (a ∷ xs) (b ∷ ys) zero d e h k = h.0
all_get R (a ∷ xs) (b ∷ ys) (suc i) d e h k = all_get R xs ys i d e h.1 k
all_get R [] (b ∷ ys) i d e h k = absurd h
all_get R (a ∷ xs) [] i d e h k = absurd h

pub all_at : {X Y : Type 0} (R : X → Y → Type 0) (xs : List X) (ys : List Y) (i : ℕ) (x : X) → AllTwo R xs ys → slice_get xs i ≡ Some x → (y : Y) × ((slice_get ys i ≡ Some y) × R x y)
all_at R [] ys i x h e = cc
all_at R (a ∷ xs) (b ∷ ys) zero x h e = (b, (refl, subst (λ z. R z b) (same_Some a x e) h.0))
all_at R (a ∷ xs) (b ∷ ys) (suc i) x h e = all_at R xs ys i x h.1 e
all_at R (a ∷ xs) [] i x h e = absurd h

-- one of the second list is replaced
pub all_put : {X Y : Type 0} (R : X → Y → Type 0) (xs : List X) (ys : List Y) (i : ℕ) (x : X) (y : Y) → AllTwo R xs ys → slice_get xs i ≡ Some x → R x y → AllTwo R xs (set ys i y)
all_put R [] [] i x y h e k = tt
all_put R (a ∷ xs) (b ∷ ys) zero x y h e k = (subst (λ z. R z y) (sym (same_Some a x e)) k, h.1)
all_put R (a ∷ xs) (b ∷ ys) (suc i) x y h e k = (h.0, all_put R xs ys i x y h.1 e k)
all_put R [] (b ∷ ys) i x y h e k = absurd h
all_put R (a ∷ xs) [] i x y h e k = absurd h

-- ---- places

pub at_less : {X : Type 0} (xs : List X) (n : ℕ) (x : X) → at_place xs n ≡ Some x → n < length xs
at_less [] n x e = cc
at_less {X} (a ∷ xs) n x e = by (n == length xs) refl e (λ k. at_less xs n x k)
  where
    by : (b : Bool) → (n == length xs) ≡ b → cond b (Some a) (at_place xs n) ≡ Some x → (at_place xs n ≡ Some x → n < length xs) → n < suc (length xs)
    by true d k rest = let same : n ≡ length xs = grind (arith, nat_tests) in omega (arith, same)
    by false d k rest = let less = rest k in omega (arith, less)

pub at_among : {X : Type 0} (xs : List X) (n : ℕ) (x : X) → at_place xs n ≡ Some x → Among xs x
at_among [] n x e = cc
at_among {X} (a ∷ xs) n x e = by (n == length xs) e (λ k. at_among xs n x k)
  where
    by : (b : Bool) → cond b (Some a) (at_place xs n) ≡ Some x → (at_place xs n ≡ Some x → Among xs x) → Among (a ∷ xs) x
    by true k rest = inl (same_Some a x k)
    by false k rest = inr (rest k)

pub at_first : {X : Type 0} (x : X) (xs : List X) → at_place (x ∷ xs) (length xs) ≡ Some x
at_first {X} x xs = by (length xs == length xs) (grind (arith, nat_tests))
  where
    by : (b : Bool) → b ≡ true → cond b (Some x) (at_place xs (length xs)) ≡ Some x
    by true e = refl
    by false e = cc

-- one more in front
pub at_more : {X : Type 0} (a : X) (xs : List X) (n : ℕ) (x : X) → at_place xs n ≡ Some x → at_place (a ∷ xs) n ≡ Some x
at_more {X} a xs n x e = by (n == length xs) refl
  where
    by : (b : Bool) → (n == length xs) ≡ b → cond b (Some a) (at_place xs n) ≡ Some x
    by true d = let same : n ≡ length xs = grind (arith, nat_tests) in let less = at_less xs n x e in absurd (omega (arith, same, less))
    by false d = e

pub all_place : {X Y : Type 0} (R : X → Y → Type 0) (xs : List X) (ys : List Y) (n : ℕ) (x : X) → AllTwo R xs ys → at_place xs n ≡ Some x → (y : Y) × ((at_place ys n ≡ Some y) × R x y)
all_place R [] ys n x h e = cc
all_place {X} {Y} R (a ∷ xs) (b ∷ ys) n x h e = by (n == length xs) (ap (λ k. n == k) (all_length R xs ys h.1)) e (λ k. all_place R xs ys n x h.1 k)
  where
    by : (c : Bool) → c ≡ (n == length ys) → cond c (Some a) (at_place xs n) ≡ Some x → (at_place xs n ≡ Some x → (y : Y) × ((at_place ys n ≡ Some y) × R x y)) → (y : Y) × ((at_place (b ∷ ys) n ≡ Some y) × R x y)
    by true d k rest = (b, (ap (λ c. cond c (Some b) (at_place ys n)) (sym d), subst (λ z. R z b) (same_Some a x k) h.0))
    by false d k rest = let r = rest k in (r.0, (ap (λ c. cond c (Some b) (at_place ys n)) (sym d) ∙ r.1.0, r.1.1))
all_place R (a ∷ xs) [] n x h e = absurd h

-- no number occurs twice
abbrev pub Apart : List ℕ → Type 0
Apart [] = Unit {0}
Apart (x ∷ xs) = (Among xs x → ⊥) × Apart xs

-- the element at a place is the first one, or at its place in the rest
pub record IsFirst (s : ℕ) (rest : List ℕ) (place r : ℕ) : Type 0 where
  pub same : (r == s) ≡ (place == length rest)
  pub later : (r == s) ≡ false → at_place rest place ≡ Some r

pub is_first : (s : ℕ) (rest : List ℕ) (place r : ℕ) → Apart (s ∷ rest) → at_place (s ∷ rest) place ≡ Some r → IsFirst s rest place r
is_first s rest place r apart e = by (place == length rest) refl e
  where
    by : (b : Bool) → (place == length rest) ≡ b → cond b (Some s) (at_place rest place) ≡ Some r → IsFirst s rest place r
    by true d k =
        let one : s ≡ r = same_Some s r k in
        let is : (r == s) ≡ true = grind (arith, nat_tests) in
        record { same = is ∙ sym d; later = λ other. absurd (no (sym is ∙ other)) }
    by false d k =
        let other : r ≡ s → ⊥ = λ same. apart.0 (subst (λ z. Among rest z) same (at_among rest place r k)) in
        let is : (r == s) ≡ false = grind (arith, nat_tests) in
        record { same = is ∙ sym d; later = λ never. k }

-- one of the second list is replaced, at a place
pub all_put_place : {Y : Type 0} (R S : ℕ → Y → Type 0) (xs : List ℕ) (ys : List Y) (n x : ℕ) (y : Y) → AllTwo R xs ys → Apart xs → at_place xs n ≡ Some x → S x y → ((z : ℕ) (b : Y) → Among xs z → (z ≡ x → ⊥) → R z b → S z b) → AllTwo S xs (put_place ys n y)
all_put_place R S [] ys n x y h apart e k f = cc
all_put_place {Y} R S (a ∷ xs) (b ∷ ys) n x y h apart e k f = by (n == length xs) (ap (λ m. n == m) (all_length R xs ys h.1)) e (λ q. all_put_place R S xs ys n x y h.1 apart.1 q k (λ z c at other r. f z c (inr at) other r))
  where
    rest : Among xs x → AllTwo S xs (put_place ys n y) → (c : Bool) → c ≡ false → AllTwo S (a ∷ xs) (cond c (y ∷ ys) (b ∷ put_place ys n y))
    rest at h2 true d = cc
    rest at h2 false d = (f a b (inl refl) (λ same. apart.0 (subst (λ z. Among xs z) (sym same) at)) h.0, h2)

    first : a ≡ x → (c : Bool) → c ≡ true → AllTwo S (a ∷ xs) (cond c (y ∷ ys) (b ∷ put_place ys n y))
    first same true d = (
      subst (λ z. S z y) (sym same) k,
      all_map R S xs ys (λ z c at r. f z c (inr at) (λ e2. apart.0 (subst (λ q. Among xs q) (e2 ∙ sym same) at)) r) h.1,
    )
    first same false d = cc

    by : (c : Bool) → c ≡ (n == length ys) → cond c (Some a) (at_place xs n) ≡ Some x → (at_place xs n ≡ Some x → AllTwo S xs (put_place ys n y)) → AllTwo S (a ∷ xs) (cond (n == length ys) (y ∷ ys) (b ∷ put_place ys n y))
    by true d q later = first (same_Some a x q) (n == length ys) (sym d)
    by false d q later = rest (at_among xs n x q) (later q) (n == length ys) (sym d)
all_put_place R S (a ∷ xs) [] n x y h apart e k f = absurd h

-- ---- filters

pub filter_same : {X : Type 0} (p q : X → Bool) (xs : List X) → ((x : X) → p x ≡ q x) → filter p xs ≡ filter q xs
filter_same p q [] same = refl
filter_same p q (x ∷ xs) same = ap (λ b. cond b (x ∷ filter p xs) (filter p xs)) (same x) ∙ ap (λ ys. cond (q x) (x ∷ ys) ys) (filter_same p q xs same)

-- the tests agree on the elements
pub filter_agree : {X : Type 0} (p q : X → Bool) (xs : List X) → ((x : X) → Among xs x → p x ≡ q x) → filter p xs ≡ filter q xs
filter_agree p q [] same = refl
filter_agree p q (x ∷ xs) same = ap (λ b. cond b (x ∷ filter p xs) (filter p xs)) (same x (inl refl)) ∙ ap (λ ys. cond (q x) (x ∷ ys) ys) (filter_agree p q xs (λ y at. same y (inr at)))

pub range_last : (a n j : ℕ) → a + n ≡ j → range_with_len a (suc n) ≡ range_with_len a n ++ j ∷ []
range_last a zero j e = ap (λ x. x ∷ []) (omega (arith, e))
range_last a (suc n) j e = ap (λ xs. a ∷ xs) (range_last (a + 1) n j (omega (arith, e)))

pub among_filter : {X : Type 0} (p : X → Bool) (xs : List X) (x : X) → Among (filter p xs) x → (p x ≡ true) × Among xs x
among_filter p [] x h = absurd h
among_filter {X} p (a ∷ xs) x h = by (p a) refl h (λ k. among_filter p xs x k)
  where
    by : (b : Bool) → p a ≡ b → Among (cond b (a ∷ filter p xs) (filter p xs)) x → (Among (filter p xs) x → (p x ≡ true) × Among xs x) → (p x ≡ true) × Among (a ∷ xs) x
    by true e (inl same) rest = (subst (λ z. p z ≡ true) same e, inl same)
    by true e (inr k) rest = let r = rest k in (r.0, inr r.1)
    by false e k rest = let r = rest k in (r.0, inr r.1)

pub filter_among : {X : Type 0} (p : X → Bool) (xs : List X) (x : X) → Among xs x → p x ≡ true → Among (filter p xs) x
filter_among p [] x h e = absurd h
filter_among {X} p (a ∷ xs) x (inl same) e = by (p a) (subst (λ z. p z ≡ true) (sym same) e)
  where
    by : (b : Bool) → b ≡ true → Among (cond b (a ∷ filter p xs) (filter p xs)) x
    by true d = inl same
    by false d = cc
filter_among {X} p (a ∷ xs) x (inr h) e = by (p a) (filter_among p xs x h e)
  where
    by : (b : Bool) → Among (filter p xs) x → Among (cond b (a ∷ filter p xs) (filter p xs)) x
    by true rest = inr rest
    by false rest = rest

pub among_get : {X : Type 0} (xs : List X) (x : X) → Among xs x → (i : ℕ) × (slice_get xs i ≡ Some x)
among_get [] x h = absurd h
among_get (a ∷ xs) x (inl same) = (0, ap Some same)
among_get (a ∷ xs) x (inr h) = let r = among_get xs x h in (suc r.0, r.1)

-- an element passes the test
pub any_among : {X : Type 0} (test : X → Bool) (xs : List X) (x : X) → Among xs x → test x ≡ true → list_any test xs ≡ true
any_among test [] x at passes = absurd at
any_among test (y ∷ ys) x (inl same) passes = ap (λ b. b || list_any test ys) (ap test same ∙ passes)
any_among test (y ∷ ys) x (inr at) passes = by (test y) (any_among test ys x at passes)
  where
    by : (b : Bool) → list_any test ys ≡ true → (b || list_any test ys) ≡ true
    by true e = refl
    by false e = e

pub get_among : {X : Type 0} (xs : List X) (i : ℕ) (x : X) → slice_get xs i ≡ Some x → Among xs x
get_among [] i x e = cc
get_among (a ∷ xs) zero x e = inl (same_Some a x e)
get_among (a ∷ xs) (suc i) x e = inr (get_among xs i x e)

pub get_front : {X : Type 0} (xs ys : List X) (i : ℕ) (x : X) → slice_get xs i ≡ Some x → slice_get (xs ++ ys) i ≡ Some x
get_front [] ys i x e = cc
get_front (a ∷ xs) ys zero x e = e
get_front (a ∷ xs) ys (suc i) x e = get_front xs ys i x e

pub range_among : (a n u : ℕ) → Among (range_with_len a n) u → u < a + n
range_among a zero u h = absurd h
range_among a (suc n) u (inl same) = omega (arith, same)
range_among a (suc n) u (inr h) = let r = range_among (a + 1) n u h in omega (arith, r)

-- ---- ways

pub kept_way : (test : End → Bool) (ways : List Way) (e : End) → test e ≡ true → HasWay ways e → HasWay (filter (λ (way : Way). test way.end) ways) e
kept_way test [] e passes h = absurd h
kept_way test (way ∷ ways) e passes (inl same) = by (test way.end) (subst (λ x. test x ≡ true) (sym same) passes)
  where
    by : (b : Bool) → b ≡ true → HasWay (cond b (way ∷ filter (λ (w : Way). test w.end) ways) (filter (λ (w : Way). test w.end) ways)) e
    by true d = inl same
    by false d = cc
kept_way test (way ∷ ways) e passes (inr h) = by (test way.end) (kept_way test ways e passes h)
  where
    by : (b : Bool) → HasWay (filter (λ (w : Way). test w.end) ways) e → HasWay (cond b (way ∷ filter (λ (w : Way). test w.end) ways) (filter (λ (w : Way). test w.end) ways)) e
    by true rest = inr rest
    by false rest = rest
