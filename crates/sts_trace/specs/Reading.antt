-- Reading a trace or outside events line by line, with the first fault that is met (this project's
-- own).
use Rattle.std.specs.Prelude.{◌≡◌, ⊤, ℕ, ◌+◌, ◌<◌, List, [], ◌∷◌, length, Option, Some, None, Result, Ok}
use Rattle.std.specs.Prelude.{Err, Bool, ◌&&◌, ◌||◌, nat_lt, if◌then◌else◌, codes}
use Rattle.std.specs.Str.{bytes_eq}
use Rattle.sts_code.specs.declared.limits.TheConstants.{MAX_OUTSIDE}
use Rattle.sts_model.specs.declared.event.Event.{Event}
use Rattle.sts_model.specs.declared.event.Event.TheVariants.{Step, Interrupt, Expire}
use Rattle.sts_text.specs.Number.{numeral}
use Rattle.sts_text.specs.Words.{lines, fields, is_filled}
use Rattle.sts_trace.specs.declared.outside.Due.{Due}
use Rattle.sts_trace.specs.Spelling.{event_text}
use Rattle.sts_trace.specs.declared.error.TraceError.{TraceError}
use Rattle.sts_trace.specs.declared.error.TraceError.TheVariants.{BadLine, BadNumber, NoNewline}
use Rattle.sts_trace.specs.declared.error.TraceError.TheVariants.{Memory}

infixl 10 ◌>>=◌
abbrev pub ◌>>=◌ : {A B : Type 0} → Result A TraceError → (A → Result B TraceError)
    → Result B TraceError
(Ok x) >>= f = f x
(Err e) >>= f = Err e

-- an error is the one that reading meets; but any answer may be that memory ran out
abbrev pub Fails : {Y : Type 0} → TraceError → Result Y TraceError → Type 0
Fails Memory read = ⊤
Fails e read = read ≡ Err e

-- The result of a call, seen by `view`, is what reading gives, unless memory ran out.
abbrev pub Gives : {X Y : Type 0} → (X → Y) → Result X TraceError → Result Y TraceError → Type 0
Gives view (Ok x) read = read ≡ Ok (view x)
Gives view (Err e) read = Fails e read

-- the number that a field of line `at` spells
abbrev pub spelled_at : ℕ → Option ℕ → Result ℕ TraceError
spelled_at at None = Err (BadNumber at)
spelled_at at (Some n) = Ok n

abbrev pub numeral_at : ℕ → List ℕ → Result ℕ TraceError
numeral_at at field = spelled_at at (numeral field)

-- the event that a word and a number say in line `at`
abbrev pub event_of : ℕ → List ℕ → List ℕ → Result Event TraceError
event_of at word number =
    if bytes_eq word (codes "step") then (numeral_at at number >>= λ n. Ok (Step n))
    else (if bytes_eq word (codes "interrupt") then (numeral_at at number >>= λ n. Ok (Interrupt n))
    else (if bytes_eq word (codes "expire") then (numeral_at at number >>= λ n. Ok (Expire n))
    else Err (BadLine at)))

-- a word and a number: one space between them, and none elsewhere
abbrev pub event_said : ℕ → List (List ℕ) → Result Event TraceError
event_said at (word ∷ number ∷ []) =
    if is_filled number then event_of at word number else Err (BadLine at)
event_said at _ = Err (BadLine at)

-- the bytes of a line: a step of this task, or these
abbrev pub bytes_of : Option ℕ → List ℕ → List ℕ
bytes_of None line = line
bytes_of (Some n) line = event_text (Step n)

-- what line `at` of a trace says
abbrev pub event_line : ℕ → List ℕ → Result Event TraceError
event_line at line = event_said at (fields line)

-- a word that an outside event begins with?
abbrev pub is_outside_word : List ℕ → Bool
is_outside_word word = bytes_eq word (codes "interrupt") || bytes_eq word (codes "expire")

-- `at`, a number, a word and a number, with one space between them; the left number is judged first
abbrev pub due_said : ℕ → List (List ℕ) → Result Due TraceError
due_said at (first ∷ time ∷ word ∷ number ∷ []) =
    if bytes_eq first (codes "at") && (is_filled time && (is_outside_word word && is_filled number))
    then (numeral_at at time >>= λ n. event_of at word number
    >>= λ e. Ok (record { at = n; event = e }))
    else Err (BadLine at)
due_said at _ = Err (BadLine at)

-- reads line `at` of an outside text, which is within the limit of outside events for a run
abbrev pub due_line : ℕ → List ℕ → Result Due TraceError
due_line at line = if nat_lt MAX_OUTSIDE at then Err (BadLine at) else due_said at (fields line)

-- reads the lines from line `at` on; the last one comes after the last newline
unfoldable pub lines_read : {A : Type 0} → (ℕ → List ℕ → Result A TraceError) → ℕ → List (List ℕ)
    → Result (List A) TraceError
lines_read said at [] = Ok []
lines_read said at (rest ∷ []) = if is_filled rest then Err NoNewline else Ok []
lines_read said at (line ∷ next ∷ more) =
    said at line >>= λ first. lines_read said (at + 1) (next ∷ more)
    >>= λ others. Ok (first ∷ others)

-- This is what the first line says, and the text after it.
pub record IsFirst {A : Type 0} (said : ℕ → List ℕ → Result A TraceError) (at : ℕ)
    (text : List ℕ) (told : Result A TraceError) (after : List ℕ) : Type 0 where
  pub line : List ℕ
  pub cut : lines text ≡ line ∷ lines after
  pub says : Gives (λ x. x) told (said at line)
  pub shorter : length after < length text

-- the events that a text spells, or its first fault
abbrev pub trace_read : List ℕ → Result (List Event) TraceError
trace_read text = lines_read event_line 1 (lines text)

-- the outside events that a text spells, or its first fault
abbrev pub outside_read : List ℕ → Result (List Due) TraceError
outside_read text = lines_read due_line 1 (lines text)
