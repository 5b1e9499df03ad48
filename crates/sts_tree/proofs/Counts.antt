-- How many records exist, when one more is written.
use Rattle.std.proofs.Common.{◌≡◌, ℕ, ◌+◌, List, [], ◌∷◌, ◌++◌, Option, Some, cond, is_some, count_by}
use Rattle.std.proofs.lemmas.List.Sums.{fold-append}

pub count_more : {T : Type 0} (xs : List (Option T)) (x : T) → count_by is_some (xs ++ Some x ∷ []) ≡ count_by is_some xs + 1
count_more {T} xs x = fold-append (λ (a : ℕ) (o : Option T). a + cond (is_some o) 1 0) 0 xs (Some x ∷ [])
