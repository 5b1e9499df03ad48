-- A line of a text, by the lines from it on.
use Rattle.std.proofs.Common.{◌≡◌, ℕ, zero, suc, List, [], ◌∷◌, drop, slice_get, ap, ◌∙◌, sym, refl}
use Rattle.std.specs.Prelude.{Some, None}
use Rattle.sts_text.specs.Words.{lines}

first_after : (xs : List (List ℕ)) (n : ℕ) → slice_get (drop n xs) 0 ≡ slice_get xs n
first_after [] zero = refl
first_after [] (suc n) = refl
first_after (x ∷ xs) zero = refl
first_after (x ∷ xs) (suc n) = first_after xs n

-- the first of those lines
pub line_after : (text rest line : List ℕ) (n : ℕ) → lines rest ≡ drop n (lines text) → Some line ≡ slice_get (lines rest) 0 → slice_get (lines text) n ≡ Some line
line_after text rest line n e h =
    sym (first_after (lines text) n) ∙ ap (λ (ls : List (List ℕ)). slice_get ls 0) (sym e) ∙ sym h

-- there is none
pub line_past : (text : List ℕ) (n : ℕ) → drop n (lines text) ≡ [] → slice_get (lines text) n ≡ None
line_past text n e = sym (first_after (lines text) n) ∙ ap (λ (ls : List (List ℕ)). slice_get ls 0) e
