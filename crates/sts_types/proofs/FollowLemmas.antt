-- The edges of an instruction, in order.
use Rattle.std.proofs.Common.{◌≡◌, ℕ, ◌+◌, ◌<◌, ◌≤◌, List, [], ◌∷◌, ◌++◌, length, take, Some, None, get_or, ◌⊎◌, inl, inr, slice_get, sym, ap, ◌∙◌}
use Rattle.std.proofs.Common.{arith}
use Rattle.std.proofs.lemmas.List.{take_more, take_all}
use Rattle.std.proofs.lemmas.Option.{slice_get_within, slice_get_cases, get_or_from_slice_get}
use Rattle.sts_rules.specs.TypeState.{TypeState}

-- the next one is there
pub take_there : {X : Type 0} (xs : List X) (n : ℕ) (x : X) → slice_get xs n ≡ Some x → take (n + 1) xs ≡ take n xs ++ x ∷ []
take_there xs n x e = take_more xs n x (slice_get_within xs n x e) ∙ ap (λ z. take n xs ++ z ∷ []) (get_or_from_slice_get xs n x x e)

none_past : {X : Type 0} (xs : List X) (n : ℕ) → slice_get xs n ≡ None → length xs ≤ n
none_past {X} xs n e = by (slice_get_cases xs n).1
  where
    by : ((x : X) × (n < length xs) × (slice_get xs n ≡ Some x) × (get_or xs n x ≡ x)) ⊎ ((length xs ≤ n) × (slice_get xs n ≡ None)) → length xs ≤ n
    by (inl h) = let no : None ≡ Some h.0 = sym e ∙ h.2 in cc
    by (inr h) = h.0

-- there is none
pub take_missing : {X : Type 0} (xs : List X) (n : ℕ) → slice_get xs n ≡ None → take (n + 1) xs ≡ take n xs
take_missing xs n e = let h = none_past xs n e in take_all (n + 1) xs (omega arith) ∙ sym (take_all n xs h)

abbrev pub at_place : TypeState → ℕ → ℕ × TypeState
at_place s to = (to, s)
