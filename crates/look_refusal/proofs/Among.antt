-- What is among the places of a list.
use Rattle.std.proofs.Common.{◌≡◌, ℕ, zero, suc, ◌<◌, ◌⊎◌, List, [], ◌∷◌, ◌++◌, length, get_or, inl, inr, refl, arith}
use Rattle.sts_rules.specs.ControlPaths.{Among}

pub among_at : (xs : List ℕ) (i x : ℕ) → i < length xs → get_or xs i 0 ≡ x → Among xs x
among_at [] i x lt e = absurd (omega arith)
among_at (y ∷ ys) zero x lt e = inl e
among_at (y ∷ ys) (suc i) x lt e = inr (among_at ys i x (omega arith) e)

pub among_last : (xs : List ℕ) (y : ℕ) → Among (xs ++ y ∷ []) y
among_last [] y = inl refl
among_last (x ∷ xs) y = inr (among_last xs y)

pub among_before : (xs : List ℕ) (y x : ℕ) → Among (xs ++ y ∷ []) x → Among xs x ⊎ (y ≡ x)
among_before [] y x (inl e) = inr e
among_before [] y x (inr a) = absurd a
among_before (z ∷ xs) y x (inl e) = inl (inl e)
among_before (z ∷ xs) y x (inr a) = elim (among_before xs y x a) [ inl b ↦ inl (inr b) | inr e ↦ inr e ]
