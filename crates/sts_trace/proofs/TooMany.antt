-- Lines with too many fields.
use Rattle.std.proofs.Common.{◌≡◌, ℕ, List, [], ◌∷◌, refl}
use Rattle.std.specs.Prelude.{Err}
use Rattle.sts_text.specs.Words.{is_space, fields}
use Rattle.sts_text.proofs.WordLemmas.{HasPart, has_part}
use Rattle.sts_trace.specs.declared.error.TraceError.TheVariants.{BadLine}
use Rattle.sts_trace.specs.Reading.{event_said, due_said}

three : (at : ℕ) (a b : List ℕ) (ps : List (List ℕ)) → HasPart ps → event_said at (a ∷ b ∷ ps) ≡ Err (BadLine at)
three at a b [] h = absurd (let empty : [] ≡ h.first ∷ h.others = h.is in cc)
three at a b (p ∷ ps) h = refl

-- a third field is one too many
pub third_field : (at : ℕ) (a b rest : List ℕ) → event_said at (a ∷ b ∷ fields rest) ≡ Err (BadLine at)
third_field at a b rest = three at a b (fields rest) (has_part is_space rest)

five : (at : ℕ) (a b c d : List ℕ) (ps : List (List ℕ)) → HasPart ps → due_said at (a ∷ b ∷ c ∷ d ∷ ps) ≡ Err (BadLine at)
five at a b c d [] h = absurd (let empty : [] ≡ h.first ∷ h.others = h.is in cc)
five at a b c d (p ∷ ps) h = refl

-- and so is a fifth
pub fifth_field : (at : ℕ) (a b c d rest : List ℕ) → due_said at (a ∷ b ∷ c ∷ d ∷ fields rest) ≡ Err (BadLine at)
fifth_field at a b c d rest = five at a b c d (fields rest) (has_part is_space rest)

pub ruleset too_many = (third_field, fifth_field)
