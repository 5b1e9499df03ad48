-- What is wrong with a text, as lines of JSON (this project's own; docs/IMPLEMENTERS.md has the
-- schema).
use Rattle.std.specs.Prelude.{◌≡◌, ◌≢◌, ◌⊎◌, ℕ, List, [], ◌∷◌, ◌++◌, codes, Some, None}
use Rattle.std.specs.List.{flat_map}
use Rattle.serde_json.specs.Data.{Data, string}
use Rattle.sts_text.specs.Words.{lines}
use Rattle.sts_output.specs.Output.{Output, memory_output}
use Rattle.look_cases.specs.Answer.{IsAnswer, version}
use Rattle.look_cases.specs.Case.{Case}
use Rattle.look_cases.specs.Json.{object_of}
use Rattle.look_refusal.specs.Output.{IsExplanation}
use Rattle.look_views.specs.Views.{line}

abbrev pub said : List ℕ → Data
said words = object_of (
    (codes "says", string words) ∷
    (codes "version", version) ∷ [])

-- an empty line has none
abbrev pub said_line : List ℕ → List ℕ
said_line [] = []
said_line (b ∷ bs) = line (said (b ∷ bs))

abbrev pub each_said : List (List ℕ) → List ℕ
each_said words = flat_map said_line words

-- the lines of an explanation; the first says no more than the answer
abbrev pub said_lines : List (List ℕ) → List ℕ
said_lines [] = []
said_lines (place ∷ more) = each_said more

-- a text alone, as a case
abbrev pub case_of : List ℕ → Case
case_of text = record { text = text; trace = None }

-- the answer to a text as a case, and the lines of its explanation
pub record IsExplained (text : List ℕ) (output : Output) : Type 0 where
  pub answer : Data
  pub explained : Output
  pub right : IsAnswer 1 (Some (case_of text)) answer
  pub words : IsExplanation text explained
  pub whole : explained.status ≢ 6
  pub printed : output ≡ record {
    bytes = line answer ++ said_lines (lines explained.bytes);
    status = explained.status;
  }

-- what `look explain --json` prints for a text, or that memory ran out
abbrev pub IsExplainedBy : List ℕ → Output → Type 0
IsExplainedBy text output = IsExplained text output ⊎ (output ≡ memory_output)
