-- Lines and sums of numbers in a row.
use Rattle.std.proofs.Common.{◌≡◌, ℕ, zero, suc, ◌+◌, List, ◌++◌, sym, ap, ◌∙◌, append_assoc, arith}
use Rattle.std.proofs.lemmas.Grind.{common_steps}
use Rattle.std.specs.List.{flat_map, range_with_len, sum_by}
use Rattle.std.proofs.lemmas.List.Sums.{sum_by-cons}

more_from : (f : ℕ → List ℕ) (a n : ℕ) → flat_map f (range_with_len a (suc n)) ≡ flat_map f (range_with_len a n) ++ f (a + n)
more_from f a zero = grind (arith, common_steps)
more_from f a (suc n) =
    let e : a + 1 + n ≡ a + suc n = omega arith in
    ap (λ (xs : List ℕ). f a ++ xs) (more_from f (a + 1) n ∙ ap (λ (k : ℕ). flat_map f (range_with_len (a + 1) n) ++ f k) e) ∙ sym (append_assoc (f a) (flat_map f (range_with_len (a + 1) n)) (f (a + suc n)))

-- those up to a number, and its own
pub one_more : (f : ℕ → List ℕ) (n : ℕ) → flat_map f (range_with_len 0 (n + 1)) ≡ flat_map f (range_with_len 0 n) ++ f n
one_more f n = let e : n + 1 ≡ suc n = omega arith in let z : 0 + n ≡ n = omega arith in rw e (more_from f 0 n ∙ ap (λ (k : ℕ). flat_map f (range_with_len 0 n) ++ f k) z)

sum_from : (f : ℕ → ℕ) (a n : ℕ) → sum_by f (range_with_len a (suc n)) ≡ sum_by f (range_with_len a n) + f (a + n)
sum_from f a zero = grind (arith, common_steps)
sum_from f a (suc n) =
    let e : a + 1 + n ≡ a + suc n = omega arith in
    let rest = sum_from f (a + 1) n ∙ ap (λ (k : ℕ). sum_by f (range_with_len (a + 1) n) + f k) e in
    sum_by-cons f a (range_with_len (a + 1) (suc n)) ∙ ap (λ (x : ℕ). f a + x) rest ∙ grouped (f a) (sum_by f (range_with_len (a + 1) n)) (f (a + suc n)) ∙ ap (λ (x : ℕ). x + f (a + suc n)) (sym (sum_by-cons f a (range_with_len (a + 1) n)))
  where
    grouped : (x y z : ℕ) → x + (y + z) ≡ x + y + z
    grouped x y z = omega arith

pub sum_next : (f : ℕ → ℕ) (n : ℕ) → sum_by f (range_with_len 0 (suc n)) ≡ sum_by f (range_with_len 0 n) + f n
sum_next f n = let z : 0 + n ≡ n = omega arith in sum_from f 0 n ∙ ap (λ (k : ℕ). sum_by f (range_with_len 0 n) + f k) z

-- a sum over the numbers up to one, and that number's own amount
pub sum_more : (f : ℕ → ℕ) (n : ℕ) → sum_by f (range_with_len 0 (n + 1)) ≡ sum_by f (range_with_len 0 n) + f n
sum_more f n = let e : n + 1 ≡ suc n = omega arith in rw e (sum_next f n)
