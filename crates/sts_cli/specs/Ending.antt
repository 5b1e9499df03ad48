-- The output of the whole program, and its status (this project's own).
use Rattle.std.specs.Prelude.{◌≡◌, ℕ, List, [], Option, Some, None, Result, Ok, Err, ⊤, map, String}
use Rattle.std.specs.Prelude.{Vec}
use Rattle.std.specs.Borrow.{Bor}
use Rattle.std.specs.String.{string_bytes}
use Rattle.std.specs.declared.alloc.Global.{Global}
use Rattle.clap.specs.Words.{Text}
use Rattle.sts_args.specs.Asked.{Asks}
use Rattle.sts_args.specs.Refused.{AsksForHelp, IsMistaken}
use Rattle.sts_args.specs.declared.asked.Line.{Line}
use Rattle.sts_args.specs.declared.asked.Line.TheVariants as line
use Rattle.sts_output.specs.Joined.{halves_of}
use Rattle.sts_output.specs.Output.{Output, Shows, failure_output, memory_output}
use Rattle.sts_cli.specs.Running.{IsOutcomeOf, Outcome}
use Rattle.sts_output.specs.Streams.{Differ, DifferFrom, Files, NoneIsYes, Prints, SameFile}
use Rattle.sts_output.specs.Streams.{Streams, Tells}
use Rattle.sts_output.specs.Streams.{events_of, most_of_a_stream, most_of_a_text, not_text_output}
use Rattle.sts_output.specs.Taking.{IsTakenOf}
use Rattle.sts_output.specs.declared.mode.Mode.{Mode}
use Rattle.sts_output.specs.declared.mode.Mode.TheVariants as mode
use Rattle.sts_output.specs.declared.taking.TakeError.{TakeError}
use Rattle.sts_output.specs.declared.process_words.WordsError.{WordsError}
use Rattle.sts_output.specs.declared.process_words.WordsError.TheVariants as words_error

-- the output for a file's text in a mode, or that memory or the file failed
pub data IsOfText (m : Mode) (file : Option (List ℕ)) (o : Output) : Type 0 where
  shown : (text : List ℕ) → IsTakenOf file most_of_a_text text → Shows m text [] o
      → IsOfText m file o
  failed : (e : TakeError) → o ≡ failure_output e → IsOfText m file o

-- the output for a file's text and another file's trace in a mode, or that memory or a file failed
pub data IsOfTextAndTrace (m : Mode) (file trace_file : Option (List ℕ)) (o : Output) : Type 0
  where
    shown : (text trace : List ℕ) → IsTakenOf file most_of_a_text text
        → IsTakenOf trace_file most_of_a_stream trace → Shows m text trace o
        → IsOfTextAndTrace m file trace_file o
    failed : (e : TakeError) → o ≡ failure_output e → IsOfTextAndTrace m file trace_file o

-- what mode `plain` prints of a text, a line `%` and a trace
pub data IsOfInput (input : Option (List ℕ)) (o : Output) : Type 0 where
  shown : (bytes : List ℕ) → IsTakenOf input most_of_a_stream bytes
      → Shows mode.Plain (halves_of bytes).text (halves_of bytes).trace o → IsOfInput input o
  failed : (e : TakeError) → o ≡ failure_output e → IsOfInput input o

-- The file of the trace, if one is named, isn't known to be one of those that are read, and no
-- answer was that it is.
abbrev pub Spares : SameFile → Text → Option (Bor Text) → Option (Bor Text) → Type 0
Spares same file outside None = ⊤
Spares same file outside (Some trace) =
    NoneIsYes same × Differ (same.known trace.now file) × DifferFrom (same.known trace.now) outside

-- the output for a run of a text with an outside text; it may also say that memory or the trace's
-- file failed. The trace's file isn't one of those that are read
pub data IsPrinted (spares : Type 0) (text outside : List ℕ) (o : Output) : Type 0 where
  of_run : spares → (r : Outcome) → IsOutcomeOf text outside r → o ≡ r.output
      → IsPrinted spares text outside o
  without_file : (e : TakeError) → o ≡ failure_output e → IsPrinted spares text outside o

-- the output for a run of a file's text with another file's outside events
pub data IsOfRun (spares : Type 0) (file outside_file : Option (List ℕ)) (o : Output) : Type 0 where
  shown : (text outside : List ℕ) → IsTakenOf file most_of_a_text text
      → IsTakenOf outside_file most_of_a_stream outside → IsPrinted spares text outside o
      → IsOfRun spares file outside_file o
  failed : (e : TakeError) → o ≡ failure_output e → IsOfRun spares file outside_file o

-- the same, by the names of the three files
abbrev pub IsOfFiles : Text → Option (Bor Text) → Option (Bor Text) → Files → SameFile → Output
    → Type 0
IsOfFiles file outside trace files same o =
    IsOfRun (Spares same file outside trace) (files file) (events_of files outside) o

-- what is printed for a line
abbrev pub IsPlayed : Line → Files → SameFile → Option (List ℕ) → Output → Type 0
IsPlayed line.Joined files same input o = IsOfInput input o
IsPlayed (line.Verify file) files same input o = IsOfText mode.Verify (files file.now) o
IsPlayed (line.List file) files same input o = IsOfText mode.List (files file.now) o
IsPlayed (line.Plain file trace) files same input o = IsOfTextAndTrace mode.Plain (files file.now)
    (files trace.now) o
IsPlayed (line.Replay file trace) files same input o = IsOfTextAndTrace mode.Replay (files file.now)
    (files trace.now) o
IsPlayed (line.Run file workers outside trace) files same input o =
    IsOfFiles file.now outside trace files same o

-- the bytes of the two streams, before and after
abbrev pub both_streams : Option (List ℕ) → Option (List ℕ) → Option (List ℕ) → Option (List ℕ)
    → Streams
both_streams out_old out_new err_old err_new =
    record { out_old = out_old; out_new = out_new; err_old = err_old; err_new = err_new }

-- The program writes what the line of the words asks for, and has its status. If the words ask for
-- help, it writes a text with status 0. If they are mistaken, it writes a message with status 2.
-- Memory may also run out.
pub data Ends (words : List Text) (files : Files) (same : SameFile) (input : Option (List ℕ))
    (s : Streams) (status : ℕ) : Type 0 where
  played : (l : Line) (o : Output) → Asks words l → IsPlayed l files same input o
      → Prints s status o → Ends words files same input s status
  helped : (o : Output) → AsksForHelp words → o.status ≡ 0 → Tells s status o
      → Ends words files same input s status
  mistaken : (o : Output) → IsMistaken words → o.status ≡ 2 → Tells s status o
      → Ends words files same input s status
  failed : Prints s status memory_output → Ends words files same input s status

-- like `Ends`, from the words if they could be read
abbrev pub EndsFrom : Result (Vec (String Global) Global) WordsError → Files → SameFile
    → Option (List ℕ) → Streams → ℕ → Type 0
EndsFrom (Ok words) files same input s status =
    Ends (map string_bytes words.items) files same input s status
EndsFrom (Err words_error.Memory) files same input s status = Prints s status memory_output
EndsFrom (Err words_error.NotText) files same input s status = Tells s status not_text_output
