-- The output of `look`, and its status (this project's own).
use Rattle.std.specs.Prelude.{◌≡◌, ℕ, List, Option, Some, None, Result, Ok, Err, map, option_map, ⊤}
use Rattle.std.specs.Prelude.{String, Vec}
use Rattle.std.specs.Borrow.{Bor}
use Rattle.std.specs.String.{string_bytes}
use Rattle.std.specs.declared.alloc.Global.{Global}
use Rattle.clap.specs.Words.{Text}
use Rattle.sts_output.specs.Streams.{Differ, Files, NoneIsYes, Prints, SameFile, Streams, Tells}
use Rattle.sts_output.specs.Streams.{most_of_a_stream, most_of_a_text, not_text_output}
use Rattle.sts_output.specs.Output.{Output, failure_output, memory_output}
use Rattle.sts_output.specs.Taking.{IsTakenOf}
use Rattle.sts_output.specs.declared.taking.TakeError.{TakeError}
use Rattle.sts_output.specs.declared.process_words.WordsError.{WordsError}
use Rattle.sts_output.specs.declared.process_words.WordsError.TheVariants as words_error
use Rattle.look_cases.specs.Lines.{IsRepliesTo}
use Rattle.look_ends.specs.Listing.{IsListingIn, Listing}
use Rattle.look_args.specs.Asked.{Asks, AsksForWords, IsMistaken}
use Rattle.look_args.specs.declared.asked.Asked.{Asked}
use Rattle.look_args.specs.declared.asked.Asked.TheVariants as asked
use Rattle.look_args.specs.declared.asked.AskedEnds.{AskedEnds}
use Rattle.look_args.specs.declared.asked.ExplainForm.{ExplainForm}
use Rattle.look_args.specs.declared.asked.Kept.{Kept}
use Rattle.look.specs.Piping.{IsPiped, form_of, piped_of}
use Rattle.look.specs.declared.piped.Piped.{Piped}
use Rattle.look_shows.specs.Showing.{IsExplainedIn, ShowsInFull}
use Rattle.look_shows.specs.declared.showing.Showing.TheVariants as showing

-- the output for the bytes of a file, up to a limit, or that memory or the file failed
pub data IsOf (most : ℕ) (Shows : List ℕ → Output → Type 0) (file : Option (List ℕ)) (o : Output)
    : Type 0 where
  shown : (bytes : List ℕ) → IsTakenOf file most bytes → Shows bytes o → IsOf most Shows file o
  failed : (e : TakeError) → o ≡ failure_output e → IsOf most Shows file o

-- the output for a file's text
abbrev pub IsOfText : (List ℕ → Output → Type 0) → Option (List ℕ) → Output → Type 0
IsOfText Shows file o = IsOf most_of_a_text Shows file o

-- the output for all bytes of a file
abbrev pub IsOfStream : (List ℕ → Output → Type 0) → Option (List ℕ) → Output → Type 0
IsOfStream Shows file o = IsOf most_of_a_stream Shows file o

-- the output for a file's text and another file's trace, or that memory or a file failed
pub data IsOfTexts (Shows : List ℕ → List ℕ → Output → Type 0) (file trace_file : Option (List ℕ))
    (o : Output) : Type 0 where
  shown : (text trace : List ℕ) → IsTakenOf file most_of_a_text text
      → IsTakenOf trace_file most_of_a_stream trace → Shows text trace o
      → IsOfTexts Shows file trace_file o
  failed : (e : TakeError) → o ≡ failure_output e → IsOfTexts Shows file trace_file o

-- the file of a trace isn't known to be the text's, and no answer was that it is
abbrev pub SparesFile : SameFile → Text → Text → Type 0
SparesFile same file trace = NoneIsYes same × Differ (same.known trace file)

-- if a trace is kept, its file is no such file
abbrev pub Spares : SameFile → Text → Option Kept → Type 0
Spares same file None = ⊤
Spares same file (Some kept) = SparesFile same file kept.file.now

-- what is printed of a listing, or that memory or the trace's file failed
pub data IsWritten (r : Listing) (spares : Type 0) (o : Output) : Type 0 where
  printed : spares → o ≡ r.output → IsWritten r spares o
  without_file : (e : TakeError) → o ≡ failure_output e → IsWritten r spares o

-- what is printed of the ends of a text, or that memory or the trace's file failed
pub data IsPrinted (ends : AskedEnds) (spares : Type 0) (text : List ℕ) (o : Output) : Type 0 where
  listed : spares → (r : Listing)
      → IsListingIn (form_of ends.json) ends.wanted (option_map (λ k. k.number) ends.kept) text r
      → o ≡ r.output → IsPrinted ends spares text o
  without_file : (e : TakeError) → o ≡ failure_output e → IsPrinted ends spares text o

-- what is printed of a file's text, or that the file failed
abbrev pub IsOfEnds : AskedEnds → Type 0 → Option (List ℕ) → Output → Type 0
IsOfEnds ends spares file o = IsOfText (IsPrinted ends spares) file o

-- what is wrong with a file's text, or the state of its run after the trace, if one is named
abbrev pub IsExplained : Files → Text → Option (Bor Text) → ExplainForm → Output → Type 0
IsExplained files file None form o = IsOfText (IsExplainedIn form file) (files file) o
IsExplained files file (Some trace) form o =
    IsOfTexts (ShowsInFull showing.Run) (files file) (files trace.now) o

-- what is shown for a line
abbrev pub IsShown : Asked → Files → SameFile → Output → Type 0
IsShown (asked.View file trace view) files same o =
    IsOfTexts (ShowsInFull (showing.View view)) (files file.now) (files trace.now) o
IsShown (asked.Explain file trace form) files same o = IsExplained files file.now trace form o
IsShown (asked.Draw file trace draw) files same o =
    IsOfTexts (ShowsInFull (showing.Picture draw (record { text = file; trace = trace })))
    (files file.now) (files trace.now) o
IsShown (asked.Tell file trace tell) files same o =
    IsOfTexts (ShowsInFull (showing.Story tell)) (files file.now) (files trace.now) o
IsShown (asked.Ends file ends) files same o =
    IsOfEnds ends (Spares same file.now ends.kept) (files file.now) o
IsShown (asked.Cases file) files same o = IsOfStream IsRepliesTo (files file.now) o

-- The program writes what the line of the words asks for, and has its status. The trace of an end
-- may be asked for on standard output: then the rest goes to standard error. If the words ask for
-- help or for the version, the status is 0. If they are mistaken, it is 2. Memory may also run out.
pub data Ends (words : List Text) (files : Files) (same : SameFile) (s : Streams) (status : ℕ)
    : Type 0 where
  shown : (a : Asked) (o : Output) → Asks words a → piped_of a ≡ None → IsShown a files same o
      → Prints s status o → Ends words files same s status
  piped : (a : Asked) (p : Piped) → Asks words a → piped_of a ≡ Some p
      → IsPiped p (files p.file.now) s status → Ends words files same s status
  helped : (o : Output) → AsksForWords words → o.status ≡ 0 → Prints s status o
      → Ends words files same s status
  mistaken : (o : Output) → IsMistaken words → o.status ≡ 2 → Tells s status o
      → Ends words files same s status
  failed : Prints s status memory_output → Ends words files same s status

-- like `Ends`, from the words if they could be read
abbrev pub EndsFrom : Result (Vec (String Global) Global) WordsError → Files → SameFile → Streams → ℕ
    → Type 0
EndsFrom (Ok words) files same s status = Ends (map string_bytes words.items) files same s status
EndsFrom (Err words_error.Memory) files same s status = Prints s status memory_output
EndsFrom (Err words_error.NotText) files same s status = Tells s status not_text_output
