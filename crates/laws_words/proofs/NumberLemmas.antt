-- Numbers that are next to each other.
use Rattle.std.proofs.Common.{ℕ, ◌+◌, ◌<◌, ◌≡◌, ◌⊎◌, inl, inr, refl}
use borrow.Author.Count.{below_more}

-- a number below n + 1 is below n, or it is n
pub split : (k n : ℕ) → k < n + 1 → (k < n) ⊎ (k ≡ n)
split k n h = below_more (λ j. (j < n) ⊎ (j ≡ n)) n (λ j less. inl less) (inr refl) k h
