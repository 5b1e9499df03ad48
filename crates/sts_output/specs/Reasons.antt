-- The lines on standard error that say why something was not printed as asked (this project's own).
use Rattle.std.specs.Prelude.{◌≡◌, ◌⊎◌, ℕ, ◌-◌, ◌==◌, List, [], ◌∷◌, ◌++◌, map, take, slice_get}
use Rattle.std.specs.Prelude.{Option, Some, None, option_map, Result, Ok, Err, codes, if◌then◌else◌}
use Rattle.std.specs.Fmt.{decimal}
use Rattle.std.specs.List.{ends_with, list_any}
use Rattle.std.specs.Option.{option_or}
use Rattle.std.specs.IoError.{error_kind}
use Rattle.std.specs.Str.{bytes_eq}
use Rattle.std.specs.declared.io.Error.{Error}
use Rattle.std.specs.declared.io.ErrorKind.{ErrorKind}
use Rattle.std.specs.declared.io.ErrorKind.TheVariants as kind
use Rattle.sts_text.specs.Words.{lines}
use Rattle.sts_code.specs.declared.checking.CodeCause.{CodeCause}
use Rattle.sts_code.specs.declared.checking.CodeCause.TheVariants as check
use Rattle.sts_code.specs.declared.checking.CodeError.{CodeError}
use Rattle.sts_model.specs.declared.event.Event.{Event}
use Rattle.sts_asm.specs.Outline.{Outline, Sentence}
use Rattle.sts_asm.specs.Source.{outlined, sentence_at}
use Rattle.sts_asm.specs.declared.fault.AsmKind.{AsmKind}
use Rattle.sts_asm.specs.declared.fault.AsmKind.TheVariants.{Code, TextTooLong}
use Rattle.sts_asm.specs.declared.fault.AsmError.{AsmError}
use Rattle.sts_trace.specs.Reading.{outside_read, trace_read}
use Rattle.sts_trace.specs.declared.error.TraceError.{TraceError}
use Rattle.sts_trace.specs.declared.error.TraceError.TheVariants as trace
use Rattle.sts_trace.specs.declared.outside.Due.{Due}
use Rattle.sts_output.specs.Shown.{shown_byte}
use Rattle.sts_output.specs.declared.file_error.FileError.{FileError}
use Rattle.sts_output.specs.declared.file_error.FileError.TheVariants as file_error
use Rattle.sts_output.specs.declared.notes.Events.{Events}
use Rattle.sts_output.specs.declared.notes.Events.TheVariants as events

-- ---- files

abbrev pub kind_words : ErrorKind → List ℕ
kind_words kind.NotFound = codes "there is no such file"
kind_words kind.PermissionDenied = codes "permission is denied"
kind_words kind.IsADirectory = codes "it is a directory"
kind_words kind.NotADirectory = codes "a part of its path is no directory"
kind_words kind.ReadOnlyFilesystem = codes "its file system is read-only"
kind_words kind.StorageFull = codes "no space is left"
kind_words kind.OutOfMemory = codes "out of memory"
kind_words _ = codes "the system reports an error"

-- `-` names no stream
abbrev pub input_words : List ℕ → List ℕ
input_words path =
    if bytes_eq path (codes "-") then codes " (standard input is /dev/stdin)" else []

-- `sts: cannot read nosuch.sts: there is no such file`
abbrev pub unread_line : List ℕ → List ℕ → ErrorKind → List ℕ
unread_line program path kind =
    program ++ codes ": cannot read " ++ path ++ codes ": " ++ kind_words kind
    ++ input_words path ++ codes "\n"

abbrev pub unwritten_line : List ℕ → List ℕ → List ℕ → List ℕ
unwritten_line program path words =
    program ++ codes ": cannot write " ++ path ++ codes ": " ++ words ++ codes "\n"

abbrev pub file_line : List ℕ → FileError → List ℕ
file_line program (file_error.Unread path kind) = unread_line program path.now kind
file_line program (file_error.Unwritten path kind) =
    unwritten_line program path.now (kind_words kind)
file_line program (file_error.Overwrites path) =
    unwritten_line program path.now (codes "this run reads that file")

-- the line about a file that was not written, if there was an error
abbrev pub unwritten_reason : List ℕ → List ℕ → Option Error → Option (List ℕ)
unwritten_reason program path None = None
unwritten_reason program path (Some error) =
    Some (unwritten_line program path (kind_words (error_kind error)))

-- ---- lines of texts

-- at most the first hundred bytes of a line
abbrev pub shown_line : Option (List ℕ) → List ℕ
shown_line None = []
shown_line (Some line) = map shown_byte (take 100 line)

-- `, line 3: "puhs 7"`, or nothing for line 0
abbrev pub place : List ℕ → ℕ → List ℕ
place text number =
    if number == 0 then []
    else codes ", line " ++ decimal number ++ codes ": \""
    ++ shown_line (slice_get (lines text) (number - 1)) ++ codes "\""

abbrev pub reason_line : List ℕ → List ℕ → List ℕ → List ℕ → List ℕ
reason_line program name place hint =
    program ++ codes ": " ++ name ++ place ++ hint ++ codes "\n"

-- ---- faults of the text of a program

abbrev pub sentence_line : Option Sentence → ℕ
sentence_line None = 0
sentence_line (Some s) = s.line

-- the line of an instruction, or 0
abbrev pub code_line : Result Outline AsmError → CodeError → ℕ
code_line (Ok o) c = sentence_line (sentence_at o c.function c.pc)
code_line (Err e) c = 0

abbrev pub kind_line : List ℕ → AsmKind → ℕ → ℕ
kind_line text (Code c) line = code_line (outlined text) c
kind_line text kind line = line

-- the line of a fault, or 0 if no line is meant
abbrev pub fault_line : List ℕ → AsmError → ℕ
fault_line text e = kind_line text e.kind e.line

-- what is wrong, for checks that no line shows
abbrev pub check_words : CodeCause → List ℕ
check_words check.NoMain = codes ": the text must end with a function main 0, without needs"
check_words check.TooManyFunctions = codes ": the text has more than 64 functions"
check_words cause = []

-- what is wrong, for faults that no line shows
abbrev pub fault_words : AsmKind → List ℕ
fault_words TextTooLong = codes ": the text has more than 1048576 bytes"
fault_words (Code c) = check_words c.cause
fault_words kind = []

-- `sts: g.sts, line 3: "puhs 7"; ./look explain FILE says more`
abbrev pub fault_reason : List ℕ → List ℕ → List ℕ → AsmError → List ℕ
fault_reason program name text e =
    reason_line program name (place text (fault_line text e) ++ fault_words e.kind)
    (codes "; ./look explain FILE says more")

-- ---- faults of a trace or an outside text

-- what is often wrong with a line: it ends as on Windows, or it is short for several lines
abbrev pub line_words : List ℕ → List ℕ
line_words line =
    if ends_with ◌==◌ line (13 ∷ [])
    then codes ": a carriage return comes before its newline"
    else (if list_any (λ b. b == 42) line
    then codes ": checks/write_trace.py writes short traces in full"
    else [])

abbrev pub maybe_line_words : Option (List ℕ) → List ℕ
maybe_line_words None = []
maybe_line_words (Some line) = line_words line

-- a line by number and bytes, and what is often wrong with such a line
abbrev pub line_place : List ℕ → ℕ → List ℕ
line_place text number =
    place text number ++ maybe_line_words (slice_get (lines text) (number - 1))

abbrev pub events_place : List ℕ → TraceError → List ℕ
events_place text (trace.BadLine n) = line_place text n
events_place text (trace.BadNumber n) = line_place text n
events_place text trace.NoNewline = codes ": no newline ends its last line"
events_place text trace.Memory = []

abbrev pub events_line : List ℕ → List ℕ → List ℕ → TraceError → List ℕ → List ℕ
events_line program name text e hint = reason_line program name (events_place text e) hint

abbrev pub trace_reason : List ℕ → List ℕ → List ℕ → Result (List Event) TraceError
    → Option (List ℕ)
trace_reason program name text (Ok events) = None
trace_reason program name text (Err e) =
    Some (events_line program name text e (codes "; ./look explain FILE TRACE says more"))

abbrev pub outside_reason : List ℕ → List ℕ → List ℕ → Result (List Due) TraceError
    → Option (List ℕ)
outside_reason program name text (Ok dues) = None
outside_reason program name text (Err e) =
    Some (events_line program name text e (codes "; docs/LANGUAGE.md#outside-events says more"))

-- ---- the line of a status

abbrev pub events_reason : List ℕ → Events → Option (List ℕ)
events_reason program events.None = None
events_reason program (events.Trace named) =
    trace_reason program named.name.now named.text.now (trace_read named.text.now)
events_reason program (events.Outside named) =
    outside_reason program named.name.now named.text.now (outside_read named.text.now)

-- the line about the first fault: one of the text comes before one of its events
abbrev pub first_reason : List ℕ → (name text : List ℕ) → Option AsmError → Option (List ℕ)
    → Option (List ℕ)
first_reason program name text fault of_events =
    option_or (option_map (fault_reason program name text) fault) of_events

-- `sts: ./look explain FILE says why`
abbrev pub refused_reason : List ℕ → List ℕ
refused_reason program = program ++ codes ": ./look explain FILE says why\n"

-- The line that says why there was this status, for a text with this fault or with none. A fault of
-- its events has a line of its own.
abbrev pub status_reason : List ℕ → ℕ → (name text : List ℕ) → Option AsmError → Option (List ℕ)
    → Option (List ℕ)
status_reason program status name text fault of_events =
    if status == 3 then first_reason program name text fault of_events
    else (if status == 4 then Some (refused_reason program) else None)

-- A line is added, if there is one and there is memory for it.
abbrev pub Adds : (old new : List ℕ) → Option (List ℕ) → Type 0
Adds old new None = new ≡ old
Adds old new (Some line) = (new ≡ old) ⊎ (new ≡ old ++ line)
