-- The names that a text gives to places: labels to instructions, functions to their indices (this
-- project's own).
use Rattle.std.specs.Prelude.{ℕ, List, Option, Some, None, option_map}
use Rattle.std.specs.List.{find}
use Rattle.std.specs.Str.{bytes_eq}

-- a name and the number of what it names
pub record Mark : Type 0 where
  pub name : List ℕ
  pub at : ℕ

-- the meaning of a name: the first that it was given
abbrev pub marked : List Mark → List ℕ → Option ℕ
marked marks name =
    option_map (λ (m : Mark). m.at) (find (λ (m : Mark). bytes_eq m.name name) marks)

-- the names that are known: the labels of one function, and the functions of the text
pub record Names : Type 0 where
  pub labels : List Mark
  pub functions : List Mark

-- the instruction that a label names; before names are known, every label counts as known
abbrev pub label_in : Option Names → List ℕ → Option ℕ
label_in None name = Some 0
label_in (Some names) name = marked names.labels name

-- the function that a name names; before names are known, every name counts as known
abbrev pub function_in : Option Names → List ℕ → Option ℕ
function_in None name = Some 0
function_in (Some names) name = marked names.functions name
