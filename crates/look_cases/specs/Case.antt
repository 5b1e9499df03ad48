-- The case that a line of JSON says (this project's own).
use Rattle.std.specs.Prelude.{ℕ, List, Option, Some, None, option_map, option_and_then, codes}
use Rattle.serde_json.specs.Data.{Data}
use Rattle.serde_json.specs.Find.{as_str, get}
use Rattle.look_cases.specs.declared.reading.Case.{Case as Borrowed}

-- a text, and a trace if a run is asked for
pub record Case : Type 0 where
  pub text : List ℕ
  pub trace : Option (List ℕ)

abbrev pub seen : Borrowed → Case
seen c = record { text = c.text.now; trace = option_map (λ t. t.now) c.trace }

-- a trace that isn't a string makes no case
abbrev pub with_trace : List ℕ → Option Data → Option Case
with_trace text None = Some (record { text = text; trace = None })
with_trace text (Some d) = option_map (λ t. record { text = text; trace = Some t }) (as_str d)

abbrev pub with_text : Option Data → Option Data → Option Case
with_text text trace = option_and_then (λ t. with_trace t trace) (option_and_then as_str text)

-- the members `text` and `trace`; all others are free
abbrev pub case_of : Data → Option Case
case_of line = with_text (get (codes "text") line) (get (codes "trace") line)
