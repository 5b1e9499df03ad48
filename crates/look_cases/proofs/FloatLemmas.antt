-- No answer has a float, so its text is known byte for byte.
use Rattle.std.proofs.Common.{◌≡◌, ℕ, ℤ, pos, negsuc, List, [], ◌∷◌, Option, Some, None, Result, Ok, Err, false, refl, ap, ◌∙◌}
use Rattle.std.proofs.lemmas.Bool.{or_from}
use Rattle.serde_json.specs.Data.{Data}
use Rattle.serde_json.specs.View.{items_of}
use Rattle.serde_json.specs.Written.{has_float, items_have_float}
use Rattle.sts_code.specs.Program.{Program, Routine}
use Rattle.sts_code.specs.declared.checking.CodeError.{CodeError}
use Rattle.sts_model.specs.declared.event.End.{End}
use Rattle.sts_model.specs.declared.event.End.TheVariants.{Success, Failed}
use Rattle.sts_model.specs.declared.event.Event.{Event}
use Rattle.sts_model.specs.Run.{after, taken}
use Rattle.sts_asm.specs.Fault.{code_error}
use Rattle.sts_asm.specs.Text.{judged}
use Rattle.sts_asm.specs.declared.fault.AsmError.{AsmError}
use Rattle.sts_rules.specs.declared.budget.Budgets.{Budgets}
use Rattle.sts_plain.specs.Seen.{shown}
use Rattle.sts_plain.specs.declared.misstep.PlainState.{PlainState}
use Rattle.sts_plain.specs.declared.misstep.PlainState.TheVariants as plain
use Rattle.sts_trace.specs.Reading.{trace_read}
use Rattle.sts_trace.specs.declared.error.TraceError.{TraceError}
use Rattle.sts_trace.specs.declared.error.TraceError.TheVariants as trace
use Rattle.look_cases.specs.Answer as def
use Rattle.look_cases.specs.Case.{Case, case_of}
use Rattle.look_cases.specs.Json.{integer, count_or_null}
use Rattle.look_cases.specs.Lines.{IsReply, json, other}

pub integer_plain : (z : ℤ) → has_float (integer z) ≡ false
integer_plain (pos n) = refl
integer_plain (negsuc n) = refl

pub maybe_plain : (n : Option ℕ) → has_float (count_or_null n) ≡ false
maybe_plain None = refl
maybe_plain (Some n) = refl

pub text_fault_plain : (e : AsmError) (c : Option CodeError) → has_float (def.text_fault e c) ≡ false
text_fault_plain e None = refl
text_fault_plain e (Some failed) = refl

pub trace_fault_plain : (e : TraceError) → has_float (def.trace_fault e) ≡ false
trace_fault_plain trace.NoNewline = refl
trace_fault_plain _ = refl

budgets_plain : (rs : List Routine) (bs : List Budgets) → items_have_float (items_of (def.budget_list rs bs)) ≡ false
budgets_plain [] bs = refl
budgets_plain (r ∷ rs) [] = refl
budgets_plain (r ∷ rs) (b ∷ bs) = budgets_plain rs bs

pub verdict_plain : (p : Program) (text : List ℕ) (d : Data) → def.IsVerdict p text d → has_float d ≡ false
verdict_plain p text d (def.accepts budgets accepted told is) = ap has_float is ∙ or_from _ _ (budgets_plain p.routines budgets) refl
verdict_plain p text d (def.refuses f pc c refusal is) = ap has_float is ∙ or_from _ _ (maybe_plain (def.line_of text f pc)) refl

pub ended_plain : (end : End) (steps : ℕ) → has_float (def.ended end steps) ≡ false
ended_plain (Success v) steps = or_from _ _ (integer_plain v) refl
ended_plain (Failed c) steps = or_from _ _ (integer_plain c) refl

run_plain : (p : Program) (text : List ℕ) (state : PlainState) (steps : ℕ) → has_float (def.run p text state steps) ≡ false
run_plain p text plain.Running steps = refl
run_plain p text (plain.Ended end) steps = ended_plain end steps
run_plain p text (plain.Fault kind task f pc) steps = or_from _ _ (maybe_plain (def.line_of text f pc)) refl

read_plain : (n : ℕ) (p : Program) (text : List ℕ) (r : Result (List Event) TraceError) (v : Data) → has_float v ≡ false → has_float (def.read_answer n p text r v) ≡ false
read_plain n p text (Ok events) v h = or_from _ _ (run_plain p text (shown (after p events)) (taken p events)) (or_from _ _ h refl)
read_plain n p text (Err e) v h = or_from _ _ (trace_fault_plain e) (or_from _ _ h refl)

traced_plain : (n : ℕ) (p : Program) (text : List ℕ) (t : Option (List ℕ)) (v : Data) → has_float v ≡ false → has_float (def.traced_answer n p text t v) ≡ false
traced_plain n p text None v h = or_from _ _ h refl
traced_plain n p text (Some t) v h = read_plain n p text (trace_read t) v h

answers_plain : (n : ℕ) (c : Case) (r : Result Program AsmError) (d : Data) → def.Answers n c r d → has_float d ≡ false
answers_plain n c (Ok p) d h = ap has_float h.2 ∙ traced_plain n p c.text c.trace h.0 (verdict_plain p c.text h.0 h.1)
answers_plain n c (Err e) d h = ap has_float h ∙ or_from _ _ (text_fault_plain e (code_error e.kind)) refl

answer_plain : (n : ℕ) (c : Option Case) (d : Data) → def.IsAnswer n c d → has_float d ≡ false
answer_plain n None d h = ap has_float h
answer_plain n (Some c) d h = answers_plain n c (judged c.text) d h

pub reply_plain : (n : ℕ) (line : List ℕ) (d : Data) → IsReply n line d → has_float d ≡ false
reply_plain n line d (json said utf8 read is) = answer_plain n (case_of said) d is
reply_plain n line d (other unread is) = ap has_float is
