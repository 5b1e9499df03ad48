-- Elements at their places, and how many pass a test.
use Rattle.std.proofs.Common.{◌≡◌, ℕ, zero, suc, ◌+◌, ◌<◌, ◌≤◌, ◌||◌, Bool, true, false, cond, List, [], ◌∷◌, ◌++◌, length, get_or, set, drop, Option, Some}
use Rattle.std.proofs.Common.{None, refl, sym, ap, ◌∙◌, arith, count_by, replicate, find, is_some, ◌≢◌}
use Rattle.std.specs.Prelude.{nat_lt}
use Rattle.std.specs.List.{list_any}
use Rattle.std.proofs.lemmas.Bool.{lt-ltb}
use Rattle.std.proofs.lemmas.List.Sums.{sum_by-cons, sum_by_push, sum_by-set}

-- ---- how many pass a test

pub count-cons : {X : Type 0} (test : X → Bool) (x : X) (xs : List X) → count_by test (x ∷ xs) ≡ cond (test x) 1 0 + count_by test xs
count-cons test x xs = sum_by-cons (λ y. cond (test y) 1 0) x xs

pub count-push : {X : Type 0} (test : X → Bool) (xs : List X) (x : X) → count_by test (xs ++ x ∷ []) ≡ count_by test xs + cond (test x) 1 0
count-push test xs x = sum_by_push (λ y. cond (test y) 1 0) xs x

pub any_count : {X : Type 0} (test : X → Bool) (xs : List X) → list_any test xs ≡ nat_lt 0 (count_by test xs)
any_count test [] = refl
any_count {X} test (x ∷ xs) = by (test x) (any_count test xs) ∙ ap (λ m. nat_lt 0 m) (sym (count-cons test x xs))
  where
    by : (b : Bool) → list_any test xs ≡ nat_lt 0 (count_by test xs) → (b || list_any test xs) ≡ nat_lt 0 (cond b 1 0 + count_by test xs)
    by true h = sym (lt-ltb 0 (1 + count_by test xs) (omega arith))
    by false h = let same : count_by test xs ≡ 0 + count_by test xs = omega arith in h ∙ ap (λ m. nat_lt 0 m) same

-- what is found passes the test
pub found_passes : {X : Type 0} (test : X → Bool) (xs : List X) (x : X) → find test xs ≡ Some x → test x ≡ true
found_passes test [] x e = cc
found_passes test (y ∷ ys) x e = by (test y) refl e (found_passes test ys x)
  where
    by : (b : Bool) → test y ≡ b → cond b (Some y) (find test ys) ≡ Some x → (find test ys ≡ Some x → test x ≡ true) → test x ≡ true
    by true h e next = let same : y ≡ x = cc in rw (← same) h
    by false h e next = next e

-- ---- at a place

-- a place that has something is inside the list
pub read_within : {X : Type 0} (xs : List (Option X)) (k : ℕ) (x : X) → get_or xs k None ≡ Some x → k < length xs
read_within [] k x e = cc
read_within (y ∷ ys) zero x e = omega arith
read_within (y ∷ ys) (suc k) x e = let h = read_within ys k x e in omega (arith, h)

-- as many are there, if one is written over
pub count_kept : {X : Type 0} (xs : List (Option X)) (k : ℕ) (x y : X) → get_or xs k None ≡ Some x → count_by is_some (set xs k (Some y)) ≡ count_by is_some xs
count_kept {X} xs k x y at =
    let s = sum_by-set (λ (o : Option X). cond (is_some o) 1 0) xs k (Some y) None (read_within xs k x at) in
    let one : ℕ = 1 in
    let t : cond (is_some (get_or xs k None)) one 0 ≡ one = rw at refl in
    omega (arith, s, t)

-- what was there is there after one more
pub old_at : {X : Type 0} (xs : List (Option X)) (y : X) (k : ℕ) → k ≢ length xs → get_or (xs ++ Some y ∷ []) k None ≡ get_or xs k None
old_at [] y zero ne = absurd (ne refl)
old_at [] y (suc k) ne = refl
old_at (x ∷ xs) y zero ne = refl
old_at (x ∷ xs) y (suc k) ne = old_at xs y k (λ q. ne (ap suc q))

pub put_there : {X : Type 0} (xs : List (Option X)) (k : ℕ) (x y : X) → get_or xs k None ≡ Some x → get_or (set xs k (Some y)) k None ≡ Some y
put_there [] k x y e = cc
put_there (o ∷ xs) zero x y e = refl
put_there (o ∷ xs) (suc k) x y e = put_there xs k x y e

pub set_again : {X : Type 0} (xs : List X) (k : ℕ) (x y : X) → set (set xs k x) k y ≡ set xs k y
set_again [] k x y = refl
set_again (z ∷ xs) zero x y = refl
set_again (z ∷ xs) (suc k) x y = ap (λ l. z ∷ l) (set_again xs k x y)

pub drop_past : {X : Type 0} (n : ℕ) (xs : List X) → length xs ≤ n → drop n xs ≡ []
drop_past zero [] h = refl
drop_past zero (x ∷ xs) h = absurd (omega arith)
drop_past (suc n) [] h = refl
drop_past (suc n) (x ∷ xs) h = drop_past n xs (omega arith)

-- zeros alone, and a zero past the end
pub zeros : (n k : ℕ) → get_or {A = ℕ} (replicate n 0) k 0 ≡ 0
zeros zero k = refl
zeros (suc n) zero = refl
zeros (suc n) (suc k) = zeros n k
