-- The line of each instruction of a text, and the words of a line (this project's own).
use Rattle.std.specs.Prelude.{ℕ, ◌-◌, List, [], Option, Some, None, option_map, Result, Ok, Err}
use Rattle.std.specs.Prelude.{length, nat_lt, slice_get, if◌then◌else◌}
use Rattle.std.specs.List.{before_first}
use Rattle.sts_text.specs.Words.{lines, words}
use Rattle.sts_asm.specs.declared.fault.AsmKind.TheVariants.{TextTooLong}
use Rattle.sts_asm.specs.declared.fault.AsmError.{AsmError}
use Rattle.sts_asm.specs.Marks.{Mark, Names}
use Rattle.sts_asm.specs.Outline.{Sentence, Draft, Outline, empty, is_semicolon}
use Rattle.sts_asm.specs.Outline.{outline_of}

-- the functions of a text with their lines; a text that is too long has a fault instead
abbrev pub outlined : List ℕ → Result Outline AsmError
outlined text =
    if nat_lt 1048576 (length text) then Err (record { line = 0; kind = TextTooLong })
    else outline_of text

-- the functions of a text with their lines; there is none if a line has a fault
abbrev pub outline_or_empty : Result Outline AsmError → Outline
outline_or_empty (Ok o) = o
outline_or_empty (Err e) = empty

-- the lines of instructions of a function, if there is one
abbrev pub sentences_of : Option Draft → List Sentence
sentences_of None = []
sentences_of (Some d) = d.code

-- the line of the instruction at a place of a function: its number and its words
abbrev pub sentence_at : Outline → ℕ → ℕ → Option Sentence
sentence_at o f pc = slice_get (sentences_of (slice_get o.done f)) pc

-- the name of a function
abbrev pub name_at : Outline → ℕ → Option (List ℕ)
name_at o f = option_map (λ (d : Draft). d.name) (slice_get o.done f)

-- how many arguments it takes
abbrev pub args_at : Outline → ℕ → Option ℕ
args_at o f = option_map (λ (d : Draft). d.args) (slice_get o.done f)

-- the labels of a function, if there is one
abbrev pub labels_of : Option Draft → List Mark
labels_of None = []
labels_of (Some d) = d.labels

-- the names that are known in a function: its labels, and the functions of the text
abbrev pub names_at : Outline → ℕ → Names
names_at o f = record { labels = labels_of (slice_get o.done f); functions = o.functions }

-- the line of this number, counted from 1
abbrev pub line_at : List ℕ → ℕ → Option (List ℕ)
line_at text number = slice_get (lines text) (number - 1)

-- the words of a line, its comment left out
abbrev pub words_of : Option (List ℕ) → List (List ℕ)
words_of None = []
words_of (Some line) = words (before_first is_semicolon line)

-- the words of the line of this number, counted from 1
abbrev pub words_at : List ℕ → ℕ → List (List ℕ)
words_at text number = words_of (line_at text number)
