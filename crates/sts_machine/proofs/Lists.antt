-- Lists by birth with holes: their sums, and the element at one place.
use Rattle.std.proofs.Common.{◌≡◌, ◌≢◌, ℕ, zero, suc, List, [], ◌∷◌, length, false, refl, get_or, arith}
use Rattle.std.proofs.lemmas.Bool.Decides.{nat_tests}
use Rattle.std.proofs.lemmas.List.Sums.{sum_by-cons}
use Rattle.std.specs.Prelude.{sum_by, ◌==◌}

pub apart : (i t : ℕ) → (i == t) ≡ false → i ≢ t
apart i t e same = grind (arith, nat_tests)

-- two sums are the same if each place adds the same
pub same_sums : {X : Type 0} (f : X → ℕ) (d : X) (xs ys : List X) → length ys ≡ length xs → ((i : ℕ) → f (get_or ys i d) ≡ f (get_or xs i d)) → sum_by f ys ≡ sum_by f xs
same_sums f d [] [] e h = refl
same_sums f d [] (y ∷ ys) e h = absurd (omega (arith, e))
same_sums f d (x ∷ xs) [] e h = absurd (omega (arith, e))
same_sums f d (x ∷ xs) (y ∷ ys) e h =
    let rest = same_sums f d xs ys (omega (arith, e)) (λ i. h (suc i)) in
    let first : f y ≡ f x = h zero in
    let one = sum_by-cons f x xs in
    let other = sum_by-cons f y ys in
    omega (arith, rest, first, one, other)
