-- The lines that the program prints (this project's own).
use Rattle.std.specs.Prelude.{ℕ, List, ◌∷◌, [], ◌++◌, Option, Some, None, codes, slice_get, Bool}
use Rattle.std.specs.Prelude.{if◌then◌else◌}
use Rattle.std.specs.Fmt.{decimal, signed_decimal}
use Rattle.sts_code.specs.Checks.{cause_number}
use Rattle.sts_code.specs.Program.{Program, Routine, routine}
use Rattle.sts_code.specs.declared.instr.Instr.{Instr}
use Rattle.sts_code.specs.declared.checking.CodeError.{CodeError}
use Rattle.sts_model.specs.declared.event.End.{End}
use Rattle.sts_model.specs.declared.event.End.TheVariants.{Success, Failed}
use Rattle.sts_model.specs.declared.event.Fault.{Fault}
use Rattle.sts_model.specs.declared.event.Fault.TheVariants as fault
use Rattle.sts_asm.specs.Fault.{kind_number}
use Rattle.sts_asm.specs.declared.fault.AsmError.{AsmError}
use Rattle.sts_list.specs.Spelling.{spelled}
use Rattle.sts_rules.specs.Causes.{cause_number as refusal_number}
use Rattle.sts_rules.specs.declared.budget.Budgets.{Budgets}
use Rattle.sts_rules.specs.declared.typing.Cause.{Cause}
use Rattle.sts_plain.specs.declared.misstep.PlainState.{PlainState}
use Rattle.sts_plain.specs.declared.misstep.PlainState.TheVariants as plain
use Rattle.sts_trace.specs.declared.error.TraceError.{TraceError}
use Rattle.sts_trace.specs.declared.error.TraceError.TheVariants as trace

-- a line is ended by a newline
abbrev pub ended : List ℕ → List ℕ
ended line = line ++ 10 ∷ []

-- ---- faults of texts

abbrev pub code_fault_line : CodeError → List ℕ
code_fault_line e =
    ended (codes "error A9 C" ++ decimal (cause_number e.cause) ++ codes " function "
    ++ decimal e.function ++ codes " at " ++ decimal e.pc)

abbrev pub line_fault_line : ℕ → ℕ → List ℕ
line_fault_line number line = ended (codes "error A" ++ decimal number ++ codes " line "
    ++ decimal line)

-- `error A2 line 3`, or `error A9 C5 function 0 at 0`
abbrev pub text_fault_line : AsmError → Option CodeError → List ℕ
text_fault_line e (Some refused) = code_fault_line refused
text_fault_line e None = line_fault_line (kind_number e.kind) e.line

abbrev pub memory_line : List ℕ
memory_line = codes "error memory\n"

abbrev pub file_line : List ℕ
file_line = codes "error file\n"

abbrev pub threads_line : List ℕ
threads_line = codes "error threads\n"

abbrev pub unfinished_line : List ℕ
unfinished_line = codes "error unfinished\n"

-- `error T2 line 2`, or `error T3`
abbrev pub trace_fault_line : TraceError → List ℕ
trace_fault_line (trace.BadLine n) = ended (codes "error T1 line " ++ decimal n)
trace_fault_line (trace.BadNumber n) = ended (codes "error T2 line " ++ decimal n)
trace_fault_line trace.NoNewline = codes "error T3\n"
trace_fault_line trace.Memory = memory_line

-- ---- how a run stands

abbrev pub fault_word : Fault → List ℕ
fault_word fault.IllegalState = codes "IllegalState"
fault_word fault.WrongThread = codes "WrongThread"
fault_word fault.Structure = codes "Structure"
fault_word fault.Operand = codes "Operand"
fault_word fault.Unbound = codes "Unbound"

-- why a task can't step, or why it can't be interrupted
abbrev pub rest_words : Bool → Bool → List ℕ
rest_words lives has_started =
    if lives then codes " waits"
    else (if has_started then codes " has ended" else codes " never starts")

abbrev pub end_line : End → List ℕ
end_line (Success v) = ended (codes "success " ++ signed_decimal v)
end_line (Failed c) = ended (codes "failed " ++ signed_decimal c)

abbrev pub fault_line : Program → Fault → ℕ → ℕ → ℕ → List ℕ
fault_line p kind task function pc =
    ended (codes "fault " ++ fault_word kind ++ codes " task " ++ decimal task ++ codes " in "
    ++ (routine p function).name ++ codes " at " ++ decimal pc)

-- `success V`, `failed C`, `running` or `fault KIND task T in NAME at PC`
abbrev pub state_line : Program → PlainState → List ℕ
state_line p plain.Running = codes "running\n"
state_line p (plain.Ended end) = end_line end
state_line p (plain.Fault kind task function pc) = fault_line p kind task function pc

abbrev pub steps_line : ℕ → List ℕ
steps_line n = ended (codes "steps " ++ decimal n)

-- ---- the verdict

-- the instruction at a place, or `end`
abbrev pub place_words : Program → Option Instr → List ℕ
place_words p None = codes "end"
place_words p (Some i) = spelled p i

-- `refused V13 in NAME at PC: INSTRUCTION`
abbrev pub refused_line : Program → ℕ → ℕ → Cause → List ℕ
refused_line p f pc c =
    ended (codes "refused V" ++ decimal (refusal_number c) ++ codes " in " ++ (routine p f).name
    ++ codes " at " ++ decimal pc ++ codes ": "
    ++ place_words p (slice_get (routine p f).code pc))

-- `NAME steps N`
abbrev pub budget_line : List ℕ → List ℕ → ℕ → List ℕ
budget_line name word n = ended (name ++ word ++ decimal n)

-- the four lines of a function
abbrev pub budget_lines : List ℕ → Budgets → List ℕ
budget_lines name b =
    budget_line name (codes " steps ") b.steps
    ++ (budget_line name (codes " tasks ") b.tasks
    ++ (budget_line name (codes " scopes ") b.scopes
    ++ budget_line name (codes " binds ") b.binds))

-- the lines of these functions, which have these budgets
abbrev pub accepted_lines : List Routine → List Budgets → List ℕ
accepted_lines [] budgets = []
accepted_lines (r ∷ rs) [] = []
accepted_lines (r ∷ rs) (b ∷ bs) = budget_lines r.name b ++ accepted_lines rs bs
