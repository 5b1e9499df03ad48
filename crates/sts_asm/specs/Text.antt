-- The program that a text spells, or its first fault (this project's own).
use Rattle.std.specs.Prelude.{ℕ, List, [], ◌∷◌, length, nat_lt, Option, Some, None, Result, Ok, Err}
use Rattle.std.specs.Prelude.{if◌then◌else◌}
use Rattle.sts_code.specs.Checks.{program_fault}
use Rattle.sts_code.specs.Program.{Program, Routine}
use Rattle.sts_code.specs.declared.checking.CodeError.{CodeError}
use Rattle.sts_code.specs.declared.instr.Instr.{Instr}
use Rattle.sts_code.specs.declared.profile.Profile.{Profile}
use Rattle.sts_asm.specs.declared.fault.AsmKind.TheVariants.{TextTooLong, Code}
use Rattle.sts_asm.specs.declared.fault.AsmError.{AsmError}
use Rattle.sts_asm.specs.Fault.{◌>>=◌, at_line}
use Rattle.sts_asm.specs.Marks.{Mark, Names}
use Rattle.sts_asm.specs.Line.{instr_of}
use Rattle.sts_asm.specs.Outline.{Sentence, Draft, Outline, outline_of}

-- the result of reading each, in order, up to the first fault
abbrev pub each : {A B : Type 0} → (A → Result B AsmError) → List A → Result (List B) AsmError
each read [] = Ok []
each read (x ∷ rest) = read x >>= λ y. each read rest >>= λ ys. Ok (y ∷ ys)

-- the instruction of a line, its names looked up
abbrev pub instr_at : Names → Sentence → Result Instr AsmError
instr_at names s = at_line s.line (instr_of (Some names) s.words)

-- a function, the names in its lines looked up
abbrev pub routine_of : List Mark → Draft → Result Routine AsmError
routine_of functions d =
    each (instr_at (record { labels = d.labels; functions = functions })) d.code
    >>= λ code. Ok (record { name = d.name; args = d.args; needs = d.needs; code = code })

-- what the program checks say of the functions
abbrev pub checked : Profile → List Routine → Option CodeError → Result Program AsmError
checked profile routines None = Ok (record { profile = profile; routines = routines })
checked profile routines (Some e) = Err (record { line = 0; kind = Code e })

-- the program of the functions that were read, or its first unknown name, or the check that fails
abbrev pub program_of : Outline → Result Program AsmError
program_of o =
    each (routine_of o.functions) o.done >>= λ rs. checked o.profile rs (program_fault rs)

-- The program that a text spells, or its first fault. The faults come in this order: the length of
-- the text, its lines one by one, a function that is left open, an unknown name (again line by
-- line), and the program checks.
abbrev pub judged : List ℕ → Result Program AsmError
judged text =
    if nat_lt 1048576 (length text) then Err (record { line = 0; kind = TextTooLong })
    else (outline_of text >>= program_of)
