-- No answer to a text without a trace has a float.
use Rattle.std.proofs.Common.{◌≡◌, ℕ, List, Result, Ok, Err, Some, false, refl, ap, ◌∙◌}
use Rattle.std.proofs.lemmas.Bool.{or_from}
use Rattle.serde_json.specs.Data.{Data}
use Rattle.serde_json.specs.Written.{has_float}
use Rattle.sts_asm.specs.Fault.{code_error}
use Rattle.sts_asm.specs.Text.{judged}
use Rattle.sts_asm.specs.declared.fault.AsmError.{AsmError}
use Rattle.sts_code.specs.Program.{Program}
use Rattle.look_cases.proofs.FloatLemmas.{text_fault_plain, verdict_plain}
use Rattle.look_cases.specs.Answer as def
use Rattle.look_json.specs.Explained.{case_of}

answers_plain : (text : List ℕ) (r : Result Program AsmError) (d : Data) → def.Answers 1 (case_of text) r d → has_float d ≡ false
answers_plain text (Ok p) d h = ap has_float h.2 ∙ or_from _ _ (verdict_plain p text h.0 h.1) refl
answers_plain text (Err e) d h = ap has_float h ∙ or_from _ _ (text_fault_plain e (code_error e.kind)) refl

pub answer_plain : (text : List ℕ) (d : Data) → def.IsAnswer 1 (Some (case_of text)) d → has_float d ≡ false
answer_plain text d h = answers_plain text (judged text) d h
