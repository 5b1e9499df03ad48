-- Names as members of objects (this project's own).
use Rattle.std.specs.Prelude.{ℕ, List, Option, Some, None, option_and_then, codes}
use Rattle.serde_json.specs.Data.{Data, object, put, string}
use Rattle.sts_asm.specs.Source.{sentence_at}
use Rattle.look_cases.specs.Answer.{line_number}
use Rattle.look_names.specs.Names.{function_name, line_name, outline_of}

-- an object with one member more, in its place among the keys; nothing else has members
abbrev pub with_member : List ℕ → Data → Data → Data
with_member key value (object members) = object (put key value members)
with_member key value other = other

-- an object with a name, if there is one
abbrev pub named : List ℕ → Option (List ℕ) → Data → Data
named key None d = d
named key (Some name) d = with_member key (string name) d

-- the line with the instruction at a place of a function; none at its end
abbrev pub line_at : List ℕ → ℕ → ℕ → Option ℕ
line_at text f pc = line_number (sentence_at (outline_of text) f pc)

-- an object with the names of a function and of the line of a place in it
abbrev pub placed : List ℕ → ℕ → ℕ → Data → Data
placed text f pc d =
    named (codes "line_name") (option_and_then (line_name text) (line_at text f pc))
    (named (codes "function_name") (function_name text f) d)
