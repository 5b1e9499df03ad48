-- The names of a text's lines, functions and values (this project's own).
use Rattle.std.specs.Prelude.{ℕ, ℤ, List, [], ◌∷◌, Option, Some, None, filter, option_and_then}
use Rattle.std.specs.Prelude.{slice_get, if◌then◌else◌}
use Rattle.std.specs.Ordering.{int_eq}
use Rattle.sts_asm.specs.Outline.{Outline}
use Rattle.sts_asm.specs.Source.{line_at, outline_or_empty, outlined}
use Rattle.sts_text.specs.Words.{lines}
use Rattle.look_names.specs.Marked.{begins_function, name_in, value_in}

-- the name of the line of this number, counted from 1
abbrev pub line_name : List ℕ → ℕ → Option (List ℕ)
line_name text n = option_and_then name_in (line_at text n)

-- the name of a function, in the line that begins it
abbrev pub function_name : List ℕ → ℕ → Option (List ℕ)
function_name text f =
    option_and_then name_in (slice_get (filter begins_function (lines text)) f)

-- the name of a value, if a line gave it, or else another one
abbrev pub named_by : Option (ℤ × List ℕ) → ℤ → Option (List ℕ) → Option (List ℕ)
named_by None v others = others
named_by (Some (value, name)) v others = if int_eq value v then Some name else others

-- the name of a value in the first of these lines that names it
abbrev pub value_among : List (List ℕ) → ℤ → Option (List ℕ)
value_among [] v = None
value_among (line ∷ more) v = named_by (value_in line) v (value_among more v)

abbrev pub value_name : List ℕ → ℤ → Option (List ℕ)
value_name text v = value_among (lines text) v

-- the functions of a text with their lines; there is none if a line has a fault
abbrev pub outline_of : List ℕ → Outline
outline_of text = outline_or_empty (outlined text)
