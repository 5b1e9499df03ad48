-- Birth numbers in a row, and what a test keeps of them.
use Rattle.std.proofs.Common.{◌≡◌, ℕ, zero, suc, ◌+◌, ◌-◌, ◌<◌, ◌≤◌, List, [], ◌∷◌, ◌++◌, Bool, true, false, cond, refl, sym, ◌∙◌, ap, ap₂, arith}
use Rattle.std.specs.Prelude.{filter}
use Rattle.std.specs.List.{All, flat_map, range_with_len}
use Rattle.std.proofs.lemmas.List.Concat.{flat_map-append}
use Rattle.std.proofs.lemmas.List.Elements.{All-append, All-cons, All-nil, filter-append}

-- those from one number on, and those after them
range-append : (a m k c : ℕ) → a + m ≡ c → range_with_len a (m + k) ≡ range_with_len a m ++ range_with_len c k
range-append a zero k c e =
    let here : a ≡ c = omega (arith, e) in
    let none : zero + k ≡ k = omega arith in
    ap₂ (λ (x n : ℕ). range_with_len x n) here none
range-append a (suc m) k c e =
    let more : suc m + k ≡ suc (m + k) = omega arith in
    ap (range_with_len a) more ∙ ap (λ (xs : List ℕ). a ∷ xs) (range-append (a + 1) m k c (omega (arith, e)))

-- the first b, and those up to n
pub range-split : (b n : ℕ) → b ≤ n → range_with_len 0 b ++ range_with_len b (n - b) ≡ range_with_len 0 n
range-split b n less =
    let whole : b + (n - b) ≡ n = omega (arith, less) in
    sym (range-append 0 b (n - b) b (omega arith)) ∙ ap (range_with_len 0) whole

-- ---- what a test keeps

-- those that a test keeps have all that any of them has
kept_bytes : (f : ℕ → List ℕ) (test : ℕ → Bool) (a m : ℕ) → ((t : ℕ) → t < a + m → test t ≡ false → f t ≡ []) → flat_map f (filter test (range_with_len a m)) ≡ flat_map f (range_with_len a m)
kept_bytes f test a zero none = refl
kept_bytes f test a (suc m) none = by (test a) (kept_bytes f test (a + 1) m (λ t less. none t (omega (arith, less)))) (none a (omega arith))
  where
    by : (b : Bool) → flat_map f (filter test (range_with_len (a + 1) m)) ≡ flat_map f (range_with_len (a + 1) m) → (b ≡ false → f a ≡ []) → flat_map f (cond b (a ∷ filter test (range_with_len (a + 1) m)) (filter test (range_with_len (a + 1) m))) ≡ f a ++ flat_map f (range_with_len (a + 1) m)
    by true rest left = ap (λ (xs : List ℕ). f a ++ xs) rest
    by false rest left = rest ∙ ap (λ (xs : List ℕ). xs ++ flat_map f (range_with_len (a + 1) m)) (sym (left refl))

-- a test that keeps no more than another, after that other
kept_twice : (first second : ℕ → Bool) (a m : ℕ) → ((t : ℕ) → t < a + m → first t ≡ false → second t ≡ false) → filter second (filter first (range_with_len a m)) ≡ filter second (range_with_len a m)
kept_twice first second a zero none = refl
kept_twice first second a (suc m) none = by (first a) (kept_twice first second (a + 1) m (λ t less. none t (omega (arith, less)))) (none a (omega arith))
  where
    by : (b : Bool) → filter second (filter first (range_with_len (a + 1) m)) ≡ filter second (range_with_len (a + 1) m) → (b ≡ false → second a ≡ false) → filter second (cond b (a ∷ filter first (range_with_len (a + 1) m)) (filter first (range_with_len (a + 1) m))) ≡ cond (second a) (a ∷ filter second (range_with_len (a + 1) m)) (filter second (range_with_len (a + 1) m))
    by true rest left = ap (λ (xs : List ℕ). cond (second a) (a ∷ xs) xs) rest
    by false rest left = rest ∙ ap (λ (c : Bool). cond c (a ∷ filter second (range_with_len (a + 1) m)) (filter second (range_with_len (a + 1) m))) (sym (left refl))

-- the bytes of the first ones that a test keeps and of the later ones are those of all
pub listed_bytes : (f : ℕ → List ℕ) (test : ℕ → Bool) (b n : ℕ) → b ≤ n → ((t : ℕ) → t < b → test t ≡ false → f t ≡ []) → flat_map f (filter test (range_with_len 0 b) ++ range_with_len b (n - b)) ≡ flat_map f (range_with_len 0 n)
listed_bytes f test b n less none =
    flat_map-append f (filter test (range_with_len 0 b)) (range_with_len b (n - b))
    ∙ ap (λ (xs : List ℕ). xs ++ flat_map f (range_with_len b (n - b))) (kept_bytes f test 0 b (λ t inside. none t (omega (arith, inside))))
    ∙ sym (flat_map-append f (range_with_len 0 b) (range_with_len b (n - b)))
    ∙ ap (flat_map f) (range-split b n less)

-- what a later test keeps of the first ones that a test kept and of the later ones
pub kept_later : (first second : ℕ → Bool) (b n : ℕ) → b ≤ n → ((t : ℕ) → t < b → first t ≡ false → second t ≡ false) → filter second (filter first (range_with_len 0 b) ++ range_with_len b (n - b)) ≡ filter second (range_with_len 0 n)
kept_later first second b n less none =
    filter-append second (filter first (range_with_len 0 b)) (range_with_len b (n - b))
    ∙ ap (λ (xs : List ℕ). xs ++ filter second (range_with_len b (n - b))) (kept_twice first second 0 b (λ t inside. none t (omega (arith, inside))))
    ∙ sym (filter-append second (range_with_len 0 b) (range_with_len b (n - b)))
    ∙ ap (filter second) (range-split b n less)

-- ---- bounds

range_below : (a m n : ℕ) → a + m ≤ n → All (λ t. t < n) (range_with_len a m)
range_below a zero n less = All-nil (λ (t : ℕ). t < n)
range_below a (suc m) n less = All-cons (λ (t : ℕ). t < n) a (range_with_len (a + 1) m) (omega (arith, less)) (range_below (a + 1) m n (omega (arith, less)))

filter_below : (test : ℕ → Bool) (a m n : ℕ) → a + m ≤ n → All (λ t. t < n) (filter test (range_with_len a m))
filter_below test a zero n less = All-nil (λ (t : ℕ). t < n)
filter_below test a (suc m) n less = by (test a) (filter_below test (a + 1) m n (omega (arith, less)))
  where
    by : (b : Bool) → All (λ t. t < n) (filter test (range_with_len (a + 1) m)) → All (λ t. t < n) (cond b (a ∷ filter test (range_with_len (a + 1) m)) (filter test (range_with_len (a + 1) m)))
    by true rest = All-cons (λ (t : ℕ). t < n) a (filter test (range_with_len (a + 1) m)) (omega (arith, less)) rest
    by false rest = rest

-- all of them are below n
pub listed_below : (test : ℕ → Bool) (b n : ℕ) → b ≤ n → All (λ t. t < n) (filter test (range_with_len 0 b) ++ range_with_len b (n - b))
listed_below test b n less = All-append (λ (t : ℕ). t < n) (filter test (range_with_len 0 b)) (range_with_len b (n - b)) (filter_below test 0 b n (omega (arith, less))) (range_below b (n - b) n (omega (arith, less)))

-- ---- one number after another

pub range-next : (a n : ℕ) → a < n → range_with_len a (n - a) ≡ a ∷ range_with_len (a + 1) (n - (a + 1))
range-next a n less = let more : n - a ≡ suc (n - (a + 1)) = omega (arith, less) in ap (range_with_len a) more
