-- A line of a text in the form that editors, make and CI jump by (this project's own).
use Rattle.std.specs.Prelude.{ℕ, ◌+◌, ◌-◌, ◌==◌, List, ◌++◌, codes, Bool, not, ◌&&◌}
use Rattle.std.specs.Prelude.{Option, Some, None, is_some, if◌then◌else◌}
use Rattle.std.specs.Fmt.{decimal}
use Rattle.std.specs.List.{after_first, before_first, position}
use Rattle.sts_asm.specs.Outline.{Sentence}
use Rattle.sts_asm.specs.Source.{line_at, sentence_at}
use Rattle.sts_text.specs.Number.{digits_up_to}
use Rattle.sts_text.specs.Words.{is_blank, is_filled}
use Rattle.look_names.specs.Names.{line_name, outline_of}

-- a text, and the name of its file
pub record Source : Type 0 where
  pub file : List ℕ
  pub text : List ℕ

-- ---- the column

abbrev pub is_inked : ℕ → Bool
is_inked b = not (is_blank b)

abbrev pub column_by : Option ℕ → ℕ
column_by None = 1
column_by (Some before) = before + 1

-- the column of the first word of a line, counted from 1
abbrev pub column_of : Option (List ℕ) → ℕ
column_of None = 1
column_of (Some line) = column_by (position is_inked line)

-- ---- the place of a line

abbrev pub is_colon : ℕ → Bool
is_colon b = b == 58

-- is it the name of a file, a colon and a number, as in `Fastest.java:18`?
abbrev pub is_place : List ℕ → Bool
is_place name =
    is_filled (before_first is_colon name)
    && is_some (digits_up_to 4294967295 (after_first is_colon name))

-- `FILE:LINE:COLUMN`
abbrev pub plain_mark : Source → ℕ → List ℕ
plain_mark s line =
    s.file ++ codes ":" ++ decimal line ++ codes ":" ++ decimal (column_of (line_at s.text line))

abbrev pub mark_by : Source → ℕ → Option (List ℕ) → List ℕ
mark_by s line None = plain_mark s line
mark_by s line (Some name) = if is_place name then name else plain_mark s line

-- the place of the line of this number: the name that the text gives it, if that is a place
abbrev pub mark : Source → ℕ → List ℕ
mark s line = mark_by s line (line_name s.text line)

-- ---- the line of an instruction

abbrev pub line_by : Option Sentence → Option Sentence → ℕ
line_by (Some s) last = s.line
line_by None (Some last) = last.line
line_by None None = 1

-- the line of the instruction at a place of a function; at its end that of its last one
abbrev pub line_of : Source → ℕ → ℕ → ℕ
line_of s f pc =
    line_by (sentence_at (outline_of s.text) f pc) (sentence_at (outline_of s.text) f (pc - 1))
