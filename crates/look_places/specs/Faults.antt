-- The line of a fault of a text, and the codes of faults and refusals (this project's own).
use Rattle.std.specs.Prelude.{ℕ, ◌==◌, List, ◌++◌, codes, Option, Some, None, unwrap_or}
use Rattle.std.specs.Prelude.{if◌then◌else◌}
use Rattle.std.specs.Fmt.{decimal}
use Rattle.sts_asm.specs.Fault.{kind_number}
use Rattle.sts_asm.specs.Outline.{Outline}
use Rattle.sts_asm.specs.declared.fault.AsmKind.{AsmKind}
use Rattle.sts_asm.specs.declared.fault.AsmKind.TheVariants.{Code}
use Rattle.sts_code.specs.declared.checking.CodeError.{CodeError}
use Rattle.look_text.specs.Checks.{failing, is_of_head}
use Rattle.look_text.specs.Functions.{functions_of}
use Rattle.look_text.specs.Heads.{head_at}
use Rattle.look_text.specs.Lines.{check_words}
use Rattle.sts_rules.specs.Causes.{cause_number}
use Rattle.sts_rules.specs.declared.typing.Cause.{Cause}
use Rattle.look_places.specs.declared.faults.Problem.{Problem}
use Rattle.look_places.specs.declared.faults.Problem.TheVariants.{Fault, Refusal}
use Rattle.look_places.specs.Marks.{Source, line_of}

-- the line of a failed check: that of the instruction, or that which begins the function
abbrev pub check_line : Source → Outline → CodeError → ℕ
check_line s o e =
    if is_of_head o e.function e.pc e.cause
    then unwrap_or (head_at s.text (failing o e.function e.cause)) 1
    else line_of s e.function e.pc

abbrev pub code_line : Source → Option Outline → CodeError → ℕ
code_line s None e = 1
code_line s (Some o) e = check_line s o e

-- the line of a fault; one that has no line has the first
abbrev pub fault_line : Source → AsmKind → ℕ → ℕ
fault_line s (Code e) line = code_line s (functions_of s.text) e
fault_line s kind line = if line == 0 then 1 else line

-- `A2`, or `A9 C4`
abbrev pub fault_code : AsmKind → List ℕ
fault_code kind = codes "A" ++ decimal (kind_number kind) ++ check_words kind

-- `V13`
abbrev pub refusal_code : Cause → List ℕ
refusal_code c = codes "V" ++ decimal (cause_number c)

abbrev pub code : Problem → List ℕ
code (Fault kind) = fault_code kind
code (Refusal c) = refusal_code c
