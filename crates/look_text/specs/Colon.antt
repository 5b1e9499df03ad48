-- A label that lacks its colon (this project's own).
use Rattle.std.specs.Prelude.{ℕ, List, [], ◌∷◌, ◌++◌, Bool, Some, false, codes, if◌then◌else◌}
use Rattle.std.specs.List.{list_any}
use Rattle.std.specs.Str.{bytes_eq}
use Rattle.sts_text.specs.Words.{lines}
use Rattle.sts_asm.specs.Source.{words_at, words_of}
use Rattle.sts_asm.specs.declared.fault.AsmKind.{AsmKind}
use Rattle.sts_asm.specs.declared.fault.AsmKind.TheVariants.{UnknownWord}
use Rattle.look_text.specs.Inside.{is_inside}

-- is this name one of the words?
abbrev pub is_among : List ℕ → List (List ℕ) → Bool
is_among name words = list_any (bytes_eq name) words

-- is this name one of the words after the first?
abbrev pub comes_later : List ℕ → List (List ℕ) → Bool
comes_later name [] = false
comes_later name (first ∷ rest) = is_among name rest

-- does one of these lines have the name after its first word?
abbrev pub is_named_in : List (List ℕ) → List ℕ → Bool
is_named_in lines name = list_any (λ line. comes_later name (words_of (Some line))) lines

-- `a label ends with a colon: bad:`
abbrev pub colon_words : List ℕ → List ℕ
colon_words name = codes "a label ends with a colon: " ++ name ++ codes ":\n"

-- a word that is alone in its line, and that some line has after its first word
abbrev pub colon_line : List ℕ → List (List ℕ) → List ℕ
colon_line text (name ∷ []) = if is_named_in (lines text) name then colon_words name else []
colon_line text words = []

-- how a label is written, if a line in a function begins with a word that may be one
abbrev pub colon_part : AsmKind → List ℕ → ℕ → List ℕ
colon_part UnknownWord text line =
    if is_inside text line then colon_line text (words_at text line) else []
colon_part kind text line = []
