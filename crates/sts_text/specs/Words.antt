-- The lines of a text, and the words and fields of a line (this project's own).
use Rattle.std.specs.Prelude.{ℕ, ◌==◌, Bool, ◌||◌, List, not, length, filter}
use Rattle.std.specs.List.{slice_split}

abbrev pub is_newline : ℕ → Bool
is_newline b = b == 10

abbrev pub is_space : ℕ → Bool
is_space b = b == 32

-- a space, a tab or a carriage return?
abbrev pub is_blank : ℕ → Bool
is_blank b = b == 32 || (b == 9 || b == 13)

-- the parts of a text between newlines; the last part comes after the last newline
abbrev pub lines : List ℕ → List (List ℕ)
lines text = slice_split is_newline text

-- the parts of a line between spaces; each space separates, so two spaces have an empty field
-- between them
abbrev pub fields : List ℕ → List (List ℕ)
fields line = slice_split is_space line

-- one byte or more?
abbrev pub is_filled : List ℕ → Bool
is_filled bytes = not (length bytes == 0)

-- the parts of a line between blanks that have a byte
abbrev pub words : List ℕ → List (List ℕ)
words line = filter is_filled (slice_split is_blank line)
