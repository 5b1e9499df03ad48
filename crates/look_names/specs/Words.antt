-- What is shown of a value, a function and a line: its name, if the text gives it one (this
-- project's own).
use Rattle.std.specs.Prelude.{ℕ, ℤ, pos, List, [], ◌++◌, ◌==◌, codes, drop, length, Option, Some, None}
use Rattle.std.specs.Prelude.{if◌then◌else◌, slice_index_or, unwrap_or}
use Rattle.std.specs.Fmt.{decimal, signed_decimal}
use Rattle.std.specs.List.{flat_map}
use Rattle.sts_asm.specs.Outline.{Sentence}
use Rattle.sts_asm.specs.Source.{sentence_at}
use Rattle.sts_code.specs.Program.{Program, routine}
use Rattle.sts_list.specs.Spelling.{after_spaces}
use Rattle.look_names.specs.Names.{function_name, line_name, outline_of, value_name}

abbrev pub value_words : List ℕ → ℤ → List ℕ
value_words text v = unwrap_or (value_name text v) (signed_decimal v)

-- `(1, 2)`
unfoldable pub listed_words : List ℕ → ℤ → List ℤ → List ℕ
listed_words text first others =
    codes "(" ++ value_words text first
    ++ flat_map (λ x. codes ", " ++ value_words text x) others ++ codes ")"

-- the arguments in brackets, if there are any
abbrev pub arguments_words : List ℕ → List ℤ → List ℕ
arguments_words text args =
    if length args == 0 then [] else listed_words text (slice_index_or args 0 (pos 0)) (drop 1 args)

abbrev pub function_words : List ℕ → Program → ℕ → List ℕ
function_words text p f = unwrap_or (function_name text f) (routine p f).name

-- `line 24`, or the name of the line
abbrev pub line_words : List ℕ → ℕ → List ℕ
line_words text n = unwrap_or (line_name text n) (codes "line " ++ decimal n)

abbrev pub place_by : List ℕ → Option Sentence → List ℕ
place_by text None = codes "its end"
place_by text (Some s) = line_words text s.line

-- the line of the instruction at a place of a function, or `its end` after the last one
abbrev pub place_words : List ℕ → ℕ → ℕ → List ℕ
place_words text f pc = place_by text (sentence_at (outline_of text) f pc)

abbrev pub said_by : List ℕ → Option Sentence → List ℕ
said_by text None = codes "at its end"
said_by text (Some s) = line_words text s.line ++ codes ":" ++ after_spaces s.words

-- `line 24: join s0 - - intr`, the last words as they are in the text; or `at its end`
abbrev pub said_words : List ℕ → ℕ → ℕ → List ℕ
said_words text f pc = said_by text (sentence_at (outline_of text) f pc)
