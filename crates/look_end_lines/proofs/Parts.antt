-- Words that were appended one after the other.
use Rattle.std.proofs.Common.{◌≡◌, ℕ, List, [], ◌++◌, ◌∙◌, ap, append-nil, append_assoc}

-- a number after words, and then more
pub number_then : (old words number more mid new : List ℕ) → mid ≡ old ++ words ++ number → new ≡ mid ++ more → new ≡ old ++ (words ++ number ++ more)
number_then old words number more mid new first second =
    second ∙ ap (λ (xs : List ℕ). xs ++ more) (first ∙ append_assoc old words number) ∙ append_assoc old (words ++ number) more

-- a number alone, and then more
pub alone_then : (old number more mid new : List ℕ) → mid ≡ old ++ [] ++ number → new ≡ mid ++ more → new ≡ old ++ (number ++ more)
alone_then old number more mid new first second =
    second ∙ ap (λ (xs : List ℕ). xs ++ more) (first ∙ ap (λ (xs : List ℕ). xs ++ number) (append-nil old)) ∙ append_assoc old number more
