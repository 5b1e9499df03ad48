-- The place where a program check fails (this project's own).
use Rattle.std.specs.Prelude.{ℕ, ◌-◌, List, [], ◌++◌, length, Bool, true, false, not, ◌||◌, nat_lt}
use Rattle.std.specs.Prelude.{Option, Some, None, is_some, slice_get, if◌then◌else◌, codes}
use Rattle.std.specs.Fmt.{decimal}
use Rattle.sts_code.specs.declared.checking.CodeCause.{CodeCause}
use Rattle.sts_code.specs.declared.checking.CodeCause.TheVariants as code
use Rattle.sts_code.specs.declared.checking.CodeError.{CodeError}
use Rattle.sts_code.specs.declared.limits.TheConstants.{MAX_FUNCTIONS, MAX_ARGS}
use Rattle.sts_asm.specs.Outline.{Sentence, Outline}
use Rattle.sts_asm.specs.Source.{sentence_at, name_at, args_at, words_at}
use Rattle.sts_list.specs.Spelling.{after_spaces}
use Rattle.look_text.specs.Heads.{head_at}

-- `, line 9: close s0`, with the words as they are in the text
abbrev pub line_words : ℕ → List (List ℕ) → List ℕ
line_words line words = codes ", line " ++ decimal line ++ codes ":" ++ after_spaces words

-- ` in main`
abbrev pub in_function : Option (List ℕ) → List ℕ
in_function None = []
in_function (Some name) = codes " in " ++ name

-- ` in main, line 1: func main 0`, of the line that begins a function, if there is one
abbrev pub head_place : List ℕ → Option ℕ → List ℕ
head_place text None = []
head_place text (Some line) =
    in_function (slice_get (words_at text line) 1) ++ line_words line (words_at text line)

-- the line of an instruction, if there is one
abbrev pub instr_place : Option Sentence → List ℕ
instr_place None = []
instr_place (Some s) = line_words s.line s.words

-- the function that a check is about: the first one too many, the last one, or the one named by the
-- error
abbrev pub failing : Outline → ℕ → CodeCause → ℕ
failing o f code.TooManyFunctions = MAX_FUNCTIONS
failing o f code.NoMain = length o.done - 1
failing o f cause = f

-- more arguments than there may be?
abbrev pub takes_too_many : Option ℕ → Bool
takes_too_many None = false
takes_too_many (Some args) = nat_lt MAX_ARGS args

-- is the check about a whole function, and not about an instruction? A bad range is if there are
-- too many arguments or no instruction
abbrev pub is_of_head : Outline → ℕ → ℕ → CodeCause → Bool
is_of_head o f pc code.BadTarget = false
is_of_head o f pc code.LaterFunction = false
is_of_head o f pc code.BadRange =
    takes_too_many (args_at o f) || not (is_some (sentence_at o f pc))
is_of_head o f pc cause = true

-- the place where a check fails
abbrev pub check_place : List ℕ → Outline → CodeError → List ℕ
check_place text o e =
    if is_of_head o e.function e.pc e.cause
    then head_place text (head_at text (failing o e.function e.cause))
    else in_function (name_at o e.function) ++ instr_place (sentence_at o e.function e.pc)

-- by the functions of a text, if they were read
abbrev pub code_place : List ℕ → Option Outline → CodeError → List ℕ
code_place text None c = []
code_place text (Some o) c = check_place text o c
