-- A text and a trace in one input, with a line `%` between them (this project's own).
use Rattle.std.specs.Prelude.{ℕ, List, [], ◌∷◌, ◌++◌, Bool, if◌then◌else◌, codes}
use Rattle.std.specs.List.{join_with_byte}
use Rattle.std.specs.Str.{bytes_eq}
use Rattle.sts_text.specs.Words.{lines}

-- the bytes before the mark, and those after it
pub record Halves : Type 0 where
  pub text : List ℕ
  pub trace : List ℕ

abbrev pub is_mark : List ℕ → Bool
is_mark line = bytes_eq line (codes "%")

-- a line more before the mark
abbrev pub after_line : List ℕ → Halves → Halves
after_line line halves = record halves { text = line ++ 10 ∷ halves.text }

-- the lines before the first line that is exactly `%`, and those after it; with no such line all is
-- text
abbrev pub halves : List (List ℕ) → Halves
halves [] = record { text = []; trace = [] }
halves (line ∷ []) = if is_mark line then record { text = []; trace = [] }
    else record { text = line; trace = [] }
halves (line ∷ next ∷ more) =
    if is_mark line then record { text = []; trace = join_with_byte 10 (next ∷ more) }
    else after_line line (halves (next ∷ more))

abbrev pub halves_of : List ℕ → Halves
halves_of input = halves (lines input)
