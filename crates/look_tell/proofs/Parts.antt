-- What was appended in parts was appended as a whole.
use Rattle.std.proofs.Common.{◌≡◌, ℕ, List, ◌++◌, ◌∙◌, ap, append_assoc}
use Rattle.laws_words.proofs.AppendLemmas.{two_parts}

-- words and their number are one part
pub after_number : (old a b c m n : List ℕ) → m ≡ old ++ (a ++ b) → n ≡ m ++ c → n ≡ old ++ (a ++ (b ++ c))
after_number old a b c m n first second = two_parts old (a ++ b) c m n first second ∙ ap (λ (xs : List ℕ). old ++ xs) (append_assoc a b c)
