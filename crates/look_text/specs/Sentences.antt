-- What each fault of a text says, and what is expected at each place, in a sentence (this
-- project's own).
use Rattle.std.specs.Prelude.{ℕ, List, [], ◌∷◌, Bool, true, codes, Option, Some, None, is_some}
use Rattle.std.specs.Prelude.{if◌then◌else◌}
use Rattle.std.specs.Str.{bytes_eq}
use Rattle.sts_code.specs.declared.checking.CodeCause.{CodeCause}
use Rattle.sts_code.specs.declared.checking.CodeCause.TheVariants as code
use Rattle.sts_code.specs.declared.checking.CodeError.{CodeError}
use Rattle.sts_asm.specs.Outline.{Outline}
use Rattle.sts_asm.specs.Source.{args_at, sentence_at, words_at}
use Rattle.sts_asm.specs.declared.fault.AsmKind.{AsmKind}
use Rattle.sts_asm.specs.declared.fault.AsmKind.TheVariants as asm
use Rattle.look_text.specs.Checks.{takes_too_many}
use Rattle.look_text.specs.Functions.{functions_of}
use Rattle.look_text.specs.Wanted.{begins_line}
use Rattle.look_text.specs.declared.wanted.Expected.{Expected}
use Rattle.look_text.specs.declared.wanted.Expected.TheVariants as wanted

-- what is out of its range, by the function: its arguments, if there is one, and whether it has the
-- instruction
abbrev pub range_sentence : Option ℕ → Bool → List ℕ
range_sentence args has_instr =
    if takes_too_many args then codes "a function takes at most 8 arguments"
    else (if has_instr then codes "a number here is out of its range"
    else codes "the function has no instruction: add ret or fail before its end")

-- why functions are no program, C1 to C7
abbrev pub check_sentence : CodeCause → Option ℕ → Bool → List ℕ
check_sentence code.TooManyFunctions args has_instr = codes "there are more than 64 functions"
check_sentence code.TooLong args has_instr = codes "the function has more than 4096 instructions"
check_sentence code.BadTarget args has_instr = codes "no instruction follows this label"
check_sentence code.LaterFunction args has_instr =
    codes "fork only a function that is written above this one"
check_sentence code.NoMain args has_instr =
    codes "the text must end with a function main 0, without needs"
check_sentence code.BadRange args has_instr = range_sentence args has_instr
check_sentence code.DuplicateName args has_instr = codes "an earlier function has the same name"

-- the sentence of an instruction, where the functions of the text were not read
abbrev pub code_sentence : CodeCause → List ℕ
code_sentence cause = check_sentence cause None true

-- by the functions of a text, if they were read
abbrev pub checked_sentence : Option Outline → CodeError → List ℕ
checked_sentence None c = code_sentence c.cause
checked_sentence (Some o) c =
    check_sentence c.cause (args_at o c.function) (is_some (sentence_at o c.function c.pc))

-- what is wrong with the first word of a line
abbrev pub first_sentence : List ℕ → List ℕ
first_sentence word =
    if bytes_eq word (codes "profile")
    then codes "profile must be line 1, above comments and empty lines"
    else (if begins_line word
    then codes "this belongs inside a function, below its func line"
    else codes "no line begins with this word")

-- by the words of the line
abbrev pub unknown_sentence : List (List ℕ) → List ℕ
unknown_sentence [] = []
unknown_sentence (word ∷ rest) = first_sentence word

-- what is wrong with a text, A1 to A10
abbrev pub kind_sentence : AsmKind → List ℕ
kind_sentence asm.NotAscii =
    codes "a byte that isn't allowed: use printable ASCII, tab and carriage return"
kind_sentence asm.UnknownWord = codes "no line begins with this word"
kind_sentence asm.BadNumber = codes "this must be a number in the range given below"
kind_sentence asm.BadOperands =
    codes "an operand is missing, extra, misspelled or of the wrong kind"
kind_sentence asm.UnknownLabel =
    codes "a label that isn't in this function, or a function that isn't in this text"
kind_sentence asm.DuplicateLabel = codes "this function has that label already"
kind_sentence asm.Unclosed = codes "a function is open here: an end is missing before this line"
kind_sentence asm.TextTooLong = codes "the text has more than 1048576 bytes"
kind_sentence (asm.Code e) = code_sentence e.cause
kind_sentence asm.Memory = codes "out of memory"

-- by the text and the line of the fault
abbrev pub fault_sentence : AsmKind → List ℕ → ℕ → List ℕ
fault_sentence asm.UnknownWord text line = unknown_sentence (words_at text line)
fault_sentence (asm.Code c) text line = checked_sentence (functions_of text) c
fault_sentence kind text line = kind_sentence kind

-- the form of a line that begins with `join`
abbrev pub join_form : List ℕ
join_form =
    codes "a whole line: join SCOPE FAILED TIMEOUT INTERRUPTED, with - for the first two if none"

-- what is expected at a place of a line
abbrev pub wanted_sentence : Expected → List ℕ
wanted_sentence wanted.First =
    codes "an instruction, a label or end inside a function, func outside, profile on line 1"
wanted_sentence wanted.Inner = codes "an instruction, a label or end"
wanted_sentence wanted.Outer = codes "func, or profile on line 1"
wanted_sentence wanted.NewLabel = codes "a label that this function hasn't yet"
wanted_sentence wanted.KnownLabel = codes "a label before an instruction of this function"
wanted_sentence wanted.KnownFunction = codes "a function that is written above this one"
wanted_sentence wanted.Nothing = codes "nothing more"
wanted_sentence wanted.Byte = codes "a number from 0 to 15"
wanted_sentence wanted.Value = codes "a number from -9223372036854775808 to 9223372036854775807"
wanted_sentence wanted.Turns = codes "the bound, a number from 1 to 10000"
wanted_sentence wanted.Slot = codes "a slot, s0 to s15"
wanted_sentence wanted.Label = codes "the name of a label"
wanted_sentence wanted.OpenSlot = codes "the slot of the scope, s0 to s15"
wanted_sentence wanted.Joiner = codes "the joiner: all, any, awaitok, awaitall or until"
wanted_sentence wanted.Condition = codes "failed, success or atleast"
wanted_sentence wanted.Count = codes "how many of them, a number from 1 to 65536"
wanted_sentence wanted.Least =
    codes "the least value, a number from -9223372036854775808 to 9223372036854775807"
wanted_sentence wanted.Timed = codes "timed, or nothing more"
wanted_sentence wanted.ForkSlot = codes "the slot of the scope, s0 to s15"
wanted_sentence wanted.Function = codes "the name of the function"
wanted_sentence wanted.Handle =
    codes "the slot of the subtask, s0 to s15, or _ for none (arguments are pushed before)"
wanted_sentence wanted.JoinSlot = codes "the slot of the scope, s0 to s15"
wanted_sentence wanted.JoinFailed = codes "the label for failed, or - for none"
wanted_sentence wanted.JoinTimeout = codes "the label for timeout, or - for none"
wanted_sentence wanted.JoinInterrupted = codes "the label for interrupted"
wanted_sentence wanted.CaseSlot = codes "the slot of the subtask, s0 to s15"
wanted_sentence wanted.CaseSuccess = codes "the label for success"
wanted_sentence wanted.CaseFailed = codes "the label for failed"
wanted_sentence wanted.TallySlot = codes "the slot of the scope, s0 to s15"
wanted_sentence wanted.State = codes "S, F or U"
wanted_sentence wanted.Name = codes "the name of the function, which no earlier one has"
wanted_sentence wanted.Args = codes "how many arguments it takes, a number from 0 to 8"
wanted_sentence wanted.Needs = codes "needs, or nothing more"
wanted_sentence wanted.Key = codes "a key, a number from 0 to 15"
wanted_sentence wanted.Profile = codes "the profile, 1 or 2"
