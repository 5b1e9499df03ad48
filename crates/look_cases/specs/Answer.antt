-- What is answered to a case (this project's own; docs/IMPLEMENTERS.md has the schema).
use Rattle.std.specs.Prelude.{◌≡◌, ℕ, true, false, List, [], ◌∷◌, ◌++◌, Option, Some, None}
use Rattle.std.specs.Prelude.{Result, Ok, Err, codes, option_map}
use Rattle.serde_json.specs.Data.{Data, Items, null, boolean, string, array}
use Rattle.serde_json.specs.View.{items_of}
use Rattle.sts_code.specs.Checks.{cause_number as check_number}
use Rattle.sts_code.specs.Program.{Program, Routine, routine}
use Rattle.sts_code.specs.declared.checking.CodeError.{CodeError}
use Rattle.sts_model.specs.declared.event.End.{End}
use Rattle.sts_model.specs.declared.event.End.TheVariants.{Success, Failed}
use Rattle.sts_model.specs.declared.event.Event.{Event}
use Rattle.sts_model.specs.declared.event.Fault.{Fault}
use Rattle.sts_model.specs.Run.{after, taken}
use Rattle.sts_asm.specs.Fault.{code_error, kind_number}
use Rattle.sts_asm.specs.Outline.{Outline, Sentence}
use Rattle.sts_asm.specs.Source.{outlined, sentence_at}
use Rattle.sts_asm.specs.Text.{judged}
use Rattle.sts_asm.specs.declared.fault.AsmError.{AsmError}
use Rattle.sts_rules.specs.Causes.{cause_number}
use Rattle.sts_rules.specs.Refusal.{IsAccepted, IsRefusal}
use Rattle.sts_rules.specs.declared.budget.Budgets.{Budgets}
use Rattle.sts_rules.specs.declared.typing.Cause.{Cause}
use Rattle.sts_plain.specs.Seen.{shown}
use Rattle.sts_plain.specs.declared.misstep.PlainState.{PlainState}
use Rattle.sts_plain.specs.declared.misstep.PlainState.TheVariants as plain
use Rattle.sts_trace.specs.Reading.{trace_read}
use Rattle.sts_trace.specs.declared.error.TraceError.{TraceError}
use Rattle.sts_trace.specs.declared.error.TraceError.TheVariants as trace
use Rattle.sts_output.specs.Output.{AreTold}
use Rattle.sts_output.specs.Printed.{fault_word}
use Rattle.look_cases.specs.Case.{Case}
use Rattle.look_cases.specs.Json.{object_of, count, integer, count_or_null, code}

-- ---- faults of texts and traces

abbrev pub line_fault : ℕ → ℕ → Data
line_fault number line = object_of (
    (codes "fault", code (codes "A") number) ∷
    (codes "line", count line) ∷ [])

abbrev pub check_fault : CodeError → Data
check_fault e = object_of (
    (codes "check", code (codes "C") (check_number e.cause)) ∷
    (codes "fault", string (codes "A9")) ∷
    (codes "function", count e.function) ∷
    (codes "place", count e.pc) ∷ [])

-- a fault of a line has its number; a failed check has the function and the place
abbrev pub text_fault : AsmError → Option CodeError → Data
text_fault e None = line_fault (kind_number e.kind) e.line
text_fault e (Some failed) = check_fault failed

abbrev pub bad_line : List ℕ → Option ℕ → Data
bad_line fault line = object_of (
    (codes "fault", string fault) ∷
    (codes "line", count_or_null line) ∷ [])

abbrev pub trace_fault : TraceError → Data
trace_fault (trace.BadLine n) = bad_line (codes "T1") (Some n)
trace_fault (trace.BadNumber n) = bad_line (codes "T2") (Some n)
trace_fault trace.NoNewline = bad_line (codes "T3") None
trace_fault trace.Memory = null

-- ---- the line of an instruction

abbrev pub line_number : Option Sentence → Option ℕ
line_number s = option_map (λ (x : Sentence). x.line) s

abbrev pub line_in : Result Outline AsmError → ℕ → ℕ → Option ℕ
line_in (Ok o) f pc = line_number (sentence_at o f pc)
line_in (Err e) f pc = None

-- the number of the line of a text with the instruction at a place of a function; none at its end
abbrev pub line_of : List ℕ → ℕ → ℕ → Option ℕ
line_of text f pc = line_in (outlined text) f pc

-- ---- the verdict

abbrev pub budget : List ℕ → Budgets → Data
budget name b = object_of (
    (codes "binds", count b.binds) ∷
    (codes "function", string name) ∷
    (codes "scopes", count b.scopes) ∷
    (codes "steps", count b.steps) ∷
    (codes "tasks", count b.tasks) ∷ [])

-- the budgets of these functions, in order
abbrev pub budget_list : List Routine → List Budgets → List Data
budget_list [] bs = []
budget_list (r ∷ rs) [] = []
budget_list (r ∷ rs) (b ∷ bs) = budget r.name b ∷ budget_list rs bs

abbrev pub accepted_with : Items → Data
accepted_with budgets = object_of (
    (codes "accepted", boolean true) ∷
    (codes "budgets", array budgets) ∷ [])

abbrev pub accepted : List Routine → List Budgets → Data
accepted rs bs = accepted_with (items_of (budget_list rs bs))

abbrev pub refused : Program → List ℕ → ℕ → ℕ → Cause → Data
refused p text f pc c = object_of (
    (codes "accepted", boolean false) ∷
    (codes "cause", code (codes "V") (cause_number c)) ∷
    (codes "function", string (routine p f).name) ∷
    (codes "line", count_or_null (line_of text f pc)) ∷
    (codes "place", count pc) ∷ [])

-- the verdict on the program of a text
pub data IsVerdict (p : Program) (text : List ℕ) (d : Data) : Type 0 where
  accepts : (budgets : List Budgets) → IsAccepted p → AreTold p budgets
      → d ≡ accepted p.routines budgets → IsVerdict p text d
  refuses : (f pc : ℕ) (c : Cause) → IsRefusal p f pc c → d ≡ refused p text f pc c
      → IsVerdict p text d

-- ---- the run

abbrev pub running : ℕ → Data
running steps = object_of (
    (codes "outcome", string (codes "running")) ∷
    (codes "steps", count steps) ∷ [])

abbrev pub ended : End → ℕ → Data
ended (Success v) steps = object_of (
    (codes "outcome", string (codes "success")) ∷
    (codes "steps", count steps) ∷
    (codes "value", integer v) ∷ [])
ended (Failed c) steps = object_of (
    (codes "code", integer c) ∷
    (codes "outcome", string (codes "failed")) ∷
    (codes "steps", count steps) ∷ [])

-- a fault with its place, and the steps before it
abbrev pub fault : Program → Fault → ℕ → ℕ → ℕ → ℕ → Data
fault p kind task f pc steps = object_of (
    (codes "fault", string (fault_word kind)) ∷
    (codes "function", string (routine p f).name) ∷
    (codes "outcome", string (codes "fault")) ∷
    (codes "place", count pc) ∷
    (codes "steps", count steps) ∷
    (codes "task", count task) ∷ [])

-- the state of a run, and the steps that it took; a fault comes without its line
abbrev pub outcome : Program → PlainState → ℕ → Data
outcome p plain.Running steps = running steps
outcome p (plain.Ended end) steps = ended end steps
outcome p (plain.Fault kind task f pc) steps = fault p kind task f pc steps

-- the state of a run of the program of a text, and the steps that it took
abbrev pub run : Program → List ℕ → PlainState → ℕ → Data
run p text plain.Running steps = running steps
run p text (plain.Ended end) steps = ended end steps
run p text (plain.Fault kind task f pc) steps = object_of (
    (codes "fault", string (fault_word kind)) ∷
    (codes "function", string (routine p f).name) ∷
    (codes "line", count_or_null (line_of text f pc)) ∷
    (codes "outcome", string (codes "fault")) ∷
    (codes "place", count pc) ∷
    (codes "steps", count steps) ∷
    (codes "task", count task) ∷ [])

-- ---- the whole answer

abbrev pub version : Data
version = count 1

-- the fields of an answer, between the number of its case and the version
abbrev pub answer_of : ℕ → List (List ℕ × Data) → Data
answer_of n fields = object_of (
    (codes "case", count n) ∷ (fields ++ ((codes "version", version) ∷ [])))

-- a line that says no case
abbrev pub no_case : ℕ → Data
no_case n = answer_of n ((codes "error", string (codes "no case")) ∷ [])

abbrev pub faulty_text : ℕ → Data → Data
faulty_text n fault = answer_of n ((codes "text_fault", fault) ∷ [])

abbrev pub judged_only : ℕ → Data → Data
judged_only n verdict = answer_of n ((codes "verdict", verdict) ∷ [])

abbrev pub faulty_trace : ℕ → Data → Data → Data
faulty_trace n fault verdict =
    answer_of n ((codes "trace_fault", fault) ∷ (codes "verdict", verdict) ∷ [])

abbrev pub judged_and_run : ℕ → Data → Data → Data
judged_and_run n state verdict =
    answer_of n ((codes "run", state) ∷ (codes "verdict", verdict) ∷ [])

abbrev pub read_answer : ℕ → Program → List ℕ → Result (List Event) TraceError → Data → Data
read_answer n p text (Ok events) verdict =
    judged_and_run n (run p text (shown (after p events)) (taken p events)) verdict
read_answer n p text (Err e) verdict = faulty_trace n (trace_fault e) verdict

-- a refused program runs too, as the plain machine runs it; without a trace there is no run
abbrev pub traced_answer : ℕ → Program → List ℕ → Option (List ℕ) → Data → Data
traced_answer n p text None verdict = judged_only n verdict
traced_answer n p text (Some trace) verdict = read_answer n p text (trace_read trace) verdict

abbrev pub program_answer : ℕ → Program → Case → Data → Data
program_answer n p c verdict = traced_answer n p c.text c.trace verdict

-- the answer to the case of this number
abbrev pub Answers : ℕ → Case → Result Program AsmError → Data → Type 0
Answers n c (Ok p) d = (v : Data) × IsVerdict p c.text v × (d ≡ program_answer n p c v)
Answers n c (Err e) d = d ≡ faulty_text n (text_fault e (code_error e.kind))

abbrev pub IsAnswer : ℕ → Option Case → Data → Type 0
IsAnswer n None d = d ≡ no_case n
IsAnswer n (Some c) d = Answers n c (judged c.text) d
