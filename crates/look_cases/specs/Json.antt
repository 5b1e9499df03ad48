-- Values of JSON, as answers have them (this project's own).
use Rattle.std.specs.Prelude.{ℕ, ℤ, List, [], ◌∷◌, ◌++◌, Option, Some, None}
use Rattle.std.specs.Fmt.{decimal}
use Rattle.serde_json.specs.Data.{Data, null, number, string, object, unsigned, Members}
use Rattle.serde_json.specs.Data.{no_members, member}
use Rattle.serde_json.specs.Find.{of_integer}

-- these members; their keys are in ascending order wherever this is used
abbrev pub members_of : List (List ℕ × Data) → Members
members_of [] = no_members
members_of (m ∷ ms) = member m.0 m.1 (members_of ms)

abbrev pub object_of : List (List ℕ × Data) → Data
object_of ms = object (members_of ms)

abbrev pub count : ℕ → Data
count n = number (unsigned n)

abbrev pub integer : ℤ → Data
integer z = number (of_integer z)

-- a number that there may be
abbrev pub count_or_null : Option ℕ → Data
count_or_null None = null
count_or_null (Some n) = count n

-- a letter and a number, as `V13`
abbrev pub code : List ℕ → ℕ → Data
code letter n = string (letter ++ decimal n)
