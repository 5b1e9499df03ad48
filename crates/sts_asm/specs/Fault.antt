-- The faults of a text, and how the answers of the assembler's parts are tied to their definitions
-- (this project's own).
use Rattle.std.specs.Prelude.{◌≡◌, ◌≢◌, ℕ, List, Option, Some, None, Result, Ok, Err}
use Rattle.sts_code.specs.declared.checking.CodeError.{CodeError}
use Rattle.sts_asm.specs.declared.fault.AsmKind.{AsmKind}
use Rattle.sts_asm.specs.declared.fault.AsmKind.TheVariants.{NotAscii, UnknownWord, BadNumber}
use Rattle.sts_asm.specs.declared.fault.AsmKind.TheVariants.{BadOperands, UnknownLabel}
use Rattle.sts_asm.specs.declared.fault.AsmKind.TheVariants.{DuplicateLabel, Unclosed, TextTooLong}
use Rattle.sts_asm.specs.declared.fault.AsmKind.TheVariants.{Code, Memory}
use Rattle.sts_asm.specs.declared.fault.AsmError.{AsmError}

-- the number of a kind in what is printed
abbrev pub kind_number : AsmKind → ℕ
kind_number NotAscii = 1
kind_number UnknownWord = 2
kind_number BadNumber = 3
kind_number BadOperands = 4
kind_number UnknownLabel = 5
kind_number DuplicateLabel = 6
kind_number Unclosed = 7
kind_number TextTooLong = 8
kind_number (Code e) = 9
kind_number Memory = 10

-- what the program checks refuse, for A9
abbrev pub code_error : AsmKind → Option CodeError
code_error (Code e) = Some e
code_error kind = None

-- memory ran out; this fault has no line
abbrev pub out_of_memory : AsmError
out_of_memory = record { line = 0; kind = Memory }

infixl 10 ◌>>=◌
-- goes on if all was well so far; otherwise the first fault remains
abbrev pub ◌>>=◌ : {A B E : Type 0} → Result A E → (A → Result B E) → Result B E
(Ok x) >>= f = f x
(Err e) >>= f = Err e

-- a fault gets the number of its line
abbrev pub at_line : {A : Type 0} → ℕ → Result A AsmKind → Result A AsmError
at_line at (Ok x) = Ok x
at_line at (Err kind) = Err (record { line = at; kind = kind })

-- What a function returned, and the words that it left, are what reading gives.
abbrev pub Reads : {X Y : Type 0} → (X → Y) → Result X AsmKind → List (List ℕ)
    → Result (Y × List (List ℕ)) AsmKind → Type 0
Reads view (Ok x) left read = read ≡ Ok (view x, left)
Reads view (Err kind) left read = read ≡ Err kind

-- Reading gives this fault, unless memory ran out.
abbrev pub Fails : {Y : Type 0} → AsmKind → Result Y AsmKind → Type 0
Fails Memory read = Unit {0}
Fails kind read = read ≡ Err kind

-- The new state is what reading gives, unless memory ran out.
abbrev pub Steps : {X Y : Type 0} → Result X AsmKind → Y → Result Y AsmKind → Type 0
Steps (Ok x) new read = read ≡ Ok new
Steps (Err kind) new read = Fails kind read

-- Like `Fails`, for a fault with its line. If memory ran out, the line is 0.
abbrev pub FailsAt : {Y : Type 0} → AsmError → AsmKind → Result Y AsmError → Type 0
FailsAt e Memory read = e.line ≡ 0
FailsAt e kind read = read ≡ Err e

-- Like `Steps`, for a fault with its line.
abbrev pub StepsAt : {X Y : Type 0} → Result X AsmError → Y → Result Y AsmError → Type 0
StepsAt (Ok x) new read = read ≡ Ok new
StepsAt (Err e) new read = FailsAt e e.kind read

-- A function returned the value that the definition gives, unless memory ran out.
abbrev pub Judges : {X Y : Type 0} → (X → Y) → Result X AsmError → Result Y AsmError → Type 0
Judges view (Ok x) judged = judged ≡ Ok (view x)
Judges view (Err e) judged = FailsAt e e.kind judged

-- a value, or a fault of the text: memory did not run out
abbrev pub IsJudged : {X : Type 0} → Result X AsmError → Type 0
IsJudged (Ok x) = Unit {0}
IsJudged (Err e) = e.kind ≢ Memory
