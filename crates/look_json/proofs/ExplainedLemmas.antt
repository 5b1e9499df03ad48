-- An answer and an explanation make what is shown of a text.
use Rattle.std.proofs.Common.{◌≡◌, ◌≢◌, ℕ, List, ◌++◌, inl, ap, ◌∙◌}
use Rattle.std.specs.Prelude.{Some, false}
use Rattle.serde_json.specs.Data.{Data}
use Rattle.serde_json.specs.Written.{has_float}
use Rattle.sts_asm.specs.Text.{judged}
use Rattle.sts_output.specs.Output.{Output}
use Rattle.sts_text.specs.Words.{lines}
use Rattle.look_cases.specs.Answer.{IsAnswer}
use Rattle.look_refusal.specs.Output.{Explains}
use Rattle.look_views.specs.Views.{line}
use Rattle.look_json.specs.Explained.{IsExplained, case_of, said_lines}
use Rattle.look_json.proofs.AnswerFloats.{answer_plain}

pub explained_as : (text : List ℕ) (answer : Data) (told output : Output) (words : List ℕ) → IsAnswer 1 (Some (case_of text)) answer → Explains (judged text) text told → told.status ≢ 6
    → (has_float answer ≡ false → words ≡ line answer ++ said_lines (lines told.bytes)) → output ≡ record { bytes = words; status = told.status } → IsExplained text output
explained_as text answer told output words right explains whole printed is = record {
  answer = answer;
  explained = told;
  right = right;
  words = inl explains;
  whole = whole;
  printed = is ∙ ap (λ (b : List ℕ). record { bytes = b; status = told.status }) (printed (answer_plain text answer right));
}
