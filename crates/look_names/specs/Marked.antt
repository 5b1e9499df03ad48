-- Marked comments: the names that a text gives its values, its functions and its lines (this
-- project's own).
use Rattle.std.specs.Prelude.{ℕ, ◌==◌, ◌-◌, ℤ, List, [], ◌∷◌, length, take, drop, Bool, ◌&&◌, false}
use Rattle.std.specs.Prelude.{nat_le, slice_index, Option, Some, None, option_map, option_and_then}
use Rattle.std.specs.Prelude.{if◌then◌else◌, codes}
use Rattle.std.specs.Char.{is_ascii_whitespace}
use Rattle.std.specs.List.{after_first, before_first, list_all, prefix_len, suffix_len}
use Rattle.std.specs.Str.{bytes_eq}
use Rattle.sts_asm.specs.Outline.{is_semicolon}
use Rattle.sts_text.specs.Number.{number}
use Rattle.sts_text.specs.Words.{is_blank, is_filled, words}

-- ---- the mark

-- the bytes after the mark, an equals sign and a blank; a comment without it is plain
abbrev pub behind_mark : List ℕ → Option (List ℕ)
behind_mark comment =
    if nat_le 2 (length comment)
    && (slice_index comment 0 == 61 && is_blank (slice_index comment 1)) then Some (drop 2 comment)
    else None

-- the bytes of a line after the mark of its comment
abbrev pub marked : List ℕ → Option (List ℕ)
marked line = behind_mark (after_first is_semicolon line)

-- ---- a name

-- the bytes without white space before them
abbrev pub begun : List ℕ → List ℕ
begun bytes = drop (prefix_len is_ascii_whitespace bytes) bytes

-- the bytes without white space at their end
abbrev pub cut : List ℕ → List ℕ
cut bytes = take (length bytes - suffix_len is_ascii_whitespace bytes) bytes

-- from the space to `~`
abbrev pub is_printable : ℕ → Bool
is_printable b = nat_le 32 b && nat_le b 126

-- a name is one byte or more, from the space to `~`
abbrev pub as_name : List ℕ → Option (List ℕ)
as_name bytes = if is_filled bytes && list_all is_printable bytes then Some bytes else None

-- what bytes name, without the white space at both ends
abbrev pub name_of : List ℕ → Option (List ℕ)
name_of bytes = as_name (cut (begun bytes))

-- the name in the marked comment of a line
abbrev pub name_in : List ℕ → Option (List ℕ)
name_in line = option_and_then name_of (marked line)

-- ---- what a line names

-- the words before the comment
abbrev pub words_before : List ℕ → List (List ℕ)
words_before line = words (before_first is_semicolon line)

-- does a function begin in a line of these words?
abbrev pub is_func : List (List ℕ) → Bool
is_func [] = false
is_func (word ∷ rest) = bytes_eq word (codes "func")

abbrev pub begins_function : List ℕ → Bool
begins_function line = is_func (words_before line)

-- a value with its name: its number comes first, and ends at a blank
abbrev pub named_value : List ℕ → Option (ℤ × List ℕ)
named_value bytes =
    option_and_then (λ v. option_map (λ name. (v, name)) (name_of (after_first is_blank bytes)))
    (number (before_first is_blank bytes))

-- what a line without words names
abbrev pub value_if : List (List ℕ) → List ℕ → Option (ℤ × List ℕ)
value_if [] line = option_and_then (λ bytes. named_value (begun bytes)) (marked line)
value_if (word ∷ rest) line = None

abbrev pub value_in : List ℕ → Option (ℤ × List ℕ)
value_in line = value_if (words_before line) line
