-- An explanation with the names of the lines that it mentions (this project's own).
use Rattle.std.specs.Prelude.{◌≡◌, ◌⊎◌, ℕ, ◌==◌, List, [], ◌∷◌, ◌++◌, Bool, false, not, codes}
use Rattle.std.specs.Prelude.{if◌then◌else◌, Option, Some, None, option_and_then}
use Rattle.std.specs.Char.{is_ascii_digit}
use Rattle.std.specs.List.{before_first, flat_map}
use Rattle.std.specs.Str.{bytes_eq}
use Rattle.sts_text.specs.Number.{digits_up_to}
use Rattle.sts_text.specs.Words.{lines, words}
use Rattle.sts_output.specs.Output.{Output, memory_output}
use Rattle.look_names.specs.Names.{line_name}
use Rattle.look_refusal.specs.Output.{IsExplanation}

-- ---- the names of lines

abbrev pub is_other : ℕ → Bool
is_other b = not (is_ascii_digit b)

-- the number that a word begins with, as `6:` does
abbrev pub number_in : List ℕ → Option ℕ
number_in word = digits_up_to 4294967295 (before_first is_other word)

abbrev pub in_brackets : Option (List ℕ) → List ℕ
in_brackets None = []
in_brackets (Some name) = codes " (" ++ name ++ codes ")"

-- the name of the line of the number that a word begins with
abbrev pub name_by : List ℕ → List ℕ → List ℕ
name_by text word = in_brackets (option_and_then (line_name text) (number_in word))

abbrev pub name_if : List ℕ → Bool → List ℕ → List ℕ
name_if text is_number word = if is_number then name_by text word else []

-- the names of the lines that these words mention: a number comes after the word `line`
abbrev pub names_in : List ℕ → Bool → List (List ℕ) → List ℕ
names_in text is_number [] = []
names_in text is_number (word ∷ more) =
    name_if text is_number word ++ names_in text (bytes_eq word (codes "line")) more

-- ---- an explanation

-- `refused V12 in main, line 6: close s0 (Fastest.java:19)`
abbrev pub named_line : List ℕ → List ℕ → List ℕ
named_line text line = line ++ (names_in text false (words line) ++ codes "\n")

-- nothing, if there are no words
abbrev pub named_if : List ℕ → List ℕ → List ℕ
named_if text [] = []
named_if text (b ∷ bs) = named_line text (b ∷ bs)

abbrev pub named_lines : List ℕ → List (List ℕ) → List ℕ
named_lines text told = flat_map (named_if text) told

abbrev pub with_names : List ℕ → Output → Output
with_names text o = record { bytes = named_lines text (lines o.bytes); status = o.status }

-- a fault of the text is shown as it is
abbrev pub named : List ℕ → Output → Output
named text o = if o.status == 3 then o else with_names text o

-- an explanation, with the names of the lines that it mentions
pub record IsNamed (text : List ℕ) (output : Output) : Type 0 where
  pub explained : Output
  pub words : IsExplanation text explained
  pub printed : output ≡ named text explained

-- what `look explain` prints of a text, or that memory ran out
abbrev pub IsNamedExplanation : List ℕ → Output → Type 0
IsNamedExplanation text output = IsNamed text output ⊎ (output ≡ memory_output)
