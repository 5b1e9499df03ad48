-- A scope as JSON (this project's own; docs/IMPLEMENTERS.md has the schema).
use Rattle.std.specs.Prelude.{ℕ, ◌+◌, Bool, List, [], ◌∷◌, ◌++◌, map, codes, if◌then◌else◌}
use Rattle.serde_json.specs.Data.{Data, array, boolean, string}
use Rattle.serde_json.specs.View.{items_of}
use Rattle.sts_code.specs.declared.instr.Joiner.{Joiner}
use Rattle.sts_list.specs.Spelling.{joiner_words}
use Rattle.sts_model.specs.declared.event.End.{End}
use Rattle.sts_model.specs.declared.event.End.TheVariants.{Success, Failed}
use Rattle.sts_model.specs.declared.record.Completion.{Completion}
use Rattle.sts_model.specs.declared.record.Scope.{Scope}
use Rattle.sts_model.specs.Living.{is_closed}
use Rattle.sts_model.specs.Outside.{can_expire}
use Rattle.sts_model.specs.World.{World, scope_at}
use Rattle.look_cases.specs.Json.{count, integer, object_of}
use Rattle.look_lines.specs.Lines.{phase_word}
use Rattle.look_names.specs.Names.{value_name}
use Rattle.look_views.specs.Named.{named}

-- these words, one space apart
abbrev pub spaced : List (List ℕ) → List ℕ
spaced [] = []
spaced (word ∷ []) = word
spaced (word ∷ next ∷ words) = word ++ 32 ∷ spaced (next ∷ words)

-- the words of a joiner, as an `open` has them
abbrev pub joiner_text : Joiner → List ℕ
joiner_text joiner = spaced (joiner_words joiner)

-- an end that a joiner was told of, and the name of its value or code
abbrev pub told_by : List ℕ → ℕ → End → Data
told_by text t (Success v) = named (codes "name") (value_name text v) (object_of (
    (codes "outcome", string (codes "success")) ∷
    (codes "task", count t) ∷
    (codes "value", integer v) ∷ []))
told_by text t (Failed c) = named (codes "name") (value_name text c) (object_of (
    (codes "code", integer c) ∷
    (codes "outcome", string (codes "failed")) ∷
    (codes "task", count t) ∷ []))

abbrev pub told_end : List ℕ → Completion → Data
told_end text c = told_by text c.task c.end

abbrev pub told_ends : List ℕ → List Completion → List Data
told_ends text completions = map (told_end text) completions

abbrev pub members : ℕ → Scope → List (List ℕ × Data) → List (List ℕ × Data)
members s scope more =
    (codes "cancelled", boolean scope.cancelled) ∷
    (codes "expired", boolean scope.expired) ∷
    (codes "joiner", string (joiner_text scope.joiner)) ∷
    (codes "may_expire", boolean (can_expire scope)) ∷
    (codes "owner", count scope.owner) ∷
    (codes "phase", string (phase_word scope.phase)) ∷
    (codes "scope", count s) ∷
    (codes "timed", boolean scope.timed) ∷ more

abbrev pub brief : ℕ → Scope → Data
brief s scope = object_of (members s scope [])

abbrev pub whole : List ℕ → ℕ → Scope → Data
whole text s scope = object_of (members s scope
    ((codes "told", array (items_of (told_ends text scope.completions))) ∷ []))

-- in full a scope has the ends that its joiner was told of
abbrev pub scope : List ℕ → Bool → ℕ → Scope → Data
scope text full s x = if full then whole text s x else brief s x

-- these scopes, numbered from s on
abbrev pub scopes : List ℕ → Bool → World → List Scope → ℕ → List Data
scopes text full w [] s = []
scopes text full w (x ∷ xs) s =
    scope text full s (scope_at w s) ∷ scopes text full w xs (s + 1)

-- a scope, unless it is closed
abbrev pub maybe_open : List ℕ → Bool → World → ℕ → List Data
maybe_open text full w s =
    if is_closed (scope_at w s).phase then [] else scope text full s (scope_at w s) ∷ []

-- the scopes among these that aren't closed, numbered from s on
abbrev pub open_scopes : List ℕ → Bool → World → List Scope → ℕ → List Data
open_scopes text full w [] s = []
open_scopes text full w (x ∷ xs) s =
    maybe_open text full w s ++ open_scopes text full w xs (s + 1)
