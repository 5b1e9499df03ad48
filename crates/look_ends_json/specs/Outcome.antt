-- How a task ended, as JSON, and the number that no end has (this project's own;
-- docs/IMPLEMENTERS.md has the schema).
use Rattle.std.specs.Prelude.{ℕ, List, [], ◌∷◌, codes, Option, None, if◌then◌else◌}
use Rattle.serde_json.specs.Data.{Data, string}
use Rattle.sts_model.specs.declared.event.End.{End}
use Rattle.sts_model.specs.declared.event.End.TheVariants.{Success, Failed}
use Rattle.look_names.specs.Names.{value_name}
use Rattle.look_cases.specs.Json.{integer, object_of}
use Rattle.look_end_lines.specs.Lines.{has_number}
use Rattle.look_views.specs.Named.{named}

-- a value or a code, and its name
abbrev pub ended : List ℕ → End → Data
ended text (Success v) = named (codes "name") (value_name text v) (object_of (
    (codes "outcome", string (codes "success")) ∷
    (codes "value", integer v) ∷ []))
ended text (Failed c) = named (codes "name") (value_name text c) (object_of (
    (codes "code", integer c) ∷
    (codes "outcome", string (codes "failed")) ∷ []))

-- the number that is asked for, if no end has it
abbrev pub missing : {A : Type 0} → Option ℕ → List A → Option ℕ
missing number found = if has_number number found then None else number
