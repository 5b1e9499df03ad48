-- A list doesn't have a key just if neither of its two parts has it.
use Rattle.std.proofs.Common.{ℕ, List, [], ◌∷◌, ◌++◌}
use Rattle.laws_words.specs.Keys.{NotIn}

pub not_front : (k : ℕ) (xs ys : List ℕ) → NotIn k (xs ++ ys) → NotIn k xs
not_front k [] ys h = tt
not_front k (x ∷ xs) ys h = (h.0, not_front k xs ys h.1)

pub not_back : (k : ℕ) (xs ys : List ℕ) → NotIn k (xs ++ ys) → NotIn k ys
not_back k [] ys h = h
not_back k (x ∷ xs) ys h = not_back k xs ys h.1

pub not_both : (k : ℕ) (xs ys : List ℕ) → NotIn k xs → NotIn k ys → NotIn k (xs ++ ys)
not_both k [] ys h l = l
not_both k (x ∷ xs) ys h l = (h.0, not_both k xs ys h.1 l)
