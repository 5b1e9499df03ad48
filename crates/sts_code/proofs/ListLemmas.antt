-- The element that was put at the end of a list, and the only one.
use Rattle.std.proofs.Common.{◌≡◌, ℕ, zero, suc, ◌<◌, List, [], ◌∷◌, ◌++◌, length, Some, refl, sym, arith, slice_get, slice_index_or}

pub got_last : {X : Type 0} (xs : List X) (x : X) → slice_get (xs ++ x ∷ []) (length xs) ≡ Some x
got_last [] x = refl
got_last (y ∷ xs) x = got_last xs x

pub sole : {X : Type 0} (x e : X) (k : ℕ) → k < 1 → slice_index_or (x ∷ []) k e ≡ e → e ≡ x
sole x e zero less i = sym i
sole x e (suc k) less i = absurd (omega arith)
