-- The place of an instruction, and the lines that explain a fault of a text (this project's own).
use Rattle.std.specs.Prelude.{ℕ, List, [], ◌++◌, ◌==◌, codes, Option, Some, None, if◌then◌else◌}
use Rattle.std.specs.Fmt.{decimal}
use Rattle.sts_code.specs.Checks.{cause_number as check_number}
use Rattle.sts_asm.specs.Fault.{kind_number}
use Rattle.sts_asm.specs.Outline.{Sentence}
use Rattle.sts_asm.specs.Source.{words_at}
use Rattle.sts_asm.specs.declared.fault.AsmKind.{AsmKind}
use Rattle.sts_asm.specs.declared.fault.AsmKind.TheVariants.{NotAscii, Code}
use Rattle.sts_asm.specs.declared.fault.AsmError.{AsmError}
use Rattle.look_text.specs.Checks.{line_words, code_place}
use Rattle.look_text.specs.Failing.{check_lines}
use Rattle.look_text.specs.Functions.{functions_of}
use Rattle.look_text.specs.Sentences.{fault_sentence}
use Rattle.look_text.specs.Wrong.{wrong_part}

-- the line of an instruction; after the last one there is none
abbrev pub place_words : Option Sentence → List ℕ
place_words None = codes ", at its end"
place_words (Some s) = line_words s.line s.words

-- ` C4`, of a program check
abbrev pub check_words : AsmKind → List ℕ
check_words (Code c) = codes " C" ++ decimal (check_number c.cause)
check_words kind = []

-- the words of the line of a fault, unless the line has a byte that isn't allowed
abbrev pub fault_words : AsmKind → List ℕ → ℕ → List (List ℕ)
fault_words NotAscii text line = []
fault_words kind text line = words_at text line

-- the line of a fault; a number 0 means none
abbrev pub line_place : AsmKind → ℕ → List ℕ → List ℕ
line_place kind line text = if line == 0 then [] else line_words line (fault_words kind text line)

abbrev pub fault_place : AsmKind → ℕ → List ℕ → List ℕ
fault_place (Code c) line text = code_place text (functions_of text) c
fault_place kind line text = line_place kind line text

-- `error A2, line 3: psh 5`, or `error A9 C4 in main, line 5: fork s0 main _`
abbrev pub fault_head : AsmError → List ℕ → List ℕ
fault_head e text =
    codes "error A" ++ decimal (kind_number e.kind) ++ check_words e.kind
    ++ fault_place e.kind e.line text

-- the wrong word or byte in its place, if the fault is about one
abbrev pub fault_part : AsmKind → List ℕ → ℕ → List ℕ
fault_part (Code c) text line = check_lines text (functions_of text) c
fault_part kind text line = wrong_part kind text line

-- where it is; what is wrong; and the wrong word or byte in its place, if the fault is about one
abbrev pub fault_lines : AsmError → List ℕ → List ℕ
fault_lines e text =
    fault_head e text ++ codes "\n" ++ fault_sentence e.kind text e.line ++ codes "\n"
    ++ fault_part e.kind text e.line
