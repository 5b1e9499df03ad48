-- The sources of bytes, and the bytes written to the two streams (this project's own).
use Rattle.std.specs.Prelude.{◌≡◌, ◌-◌, ◌^◌, ℕ, List, [], Option, Some, None, codes}
use Rattle.std.specs.Prelude.{Bool, false, ⊤, IfSome}
use Rattle.std.specs.Borrow.{Bor}
use Rattle.std.specs.Io.KnownBytes.{Appends, Keeps}
use Rattle.sts_model.specs.declared.event.Event.{Event}
use Rattle.sts_trace.specs.Spelling.{trace_text}
use Rattle.sts_output.specs.Output.{Output, Writes, file_output}

-- one byte more than a text may have
abbrev pub most_of_a_text : ℕ
most_of_a_text = 1048577

-- more than memory holds
abbrev pub most_of_a_stream : ℕ
most_of_a_stream = 2 ^ 64 - 1

-- the bytes of a file by its name, if they are known
abbrev pub Files : Type 0
Files = List ℕ → Option (List ℕ)

-- the bytes of a file of events, which is empty if no file is named
abbrev pub events_of : Files → Option (Bor (List ℕ)) → Option (List ℕ)
events_of files None = Some []
events_of files (Some path) = files path.now

-- Whether two names are of the same file, if that is known; and whether the answer to such a
-- question was ever yes, before the call and after it.
pub record SameFile : Type 0 where
  pub known : List ℕ → List ℕ → Option Bool
  pub before : Bool
  pub after : Bool

abbrev pub same_file : (List ℕ → List ℕ → Option Bool) → Bool → Bool → SameFile
same_file known before after = record { known = known; before = before; after = after }

-- no answer of the call was yes
abbrev pub NoneIsYes : SameFile → Type 0
NoneIsYes same = same.after ≡ same.before

-- two files aren't known to be the same
abbrev pub Differ : Option Bool → Type 0
Differ same = IfSome same (λ is. is ≡ false)

-- a file isn't known to be the named one, if there is one
abbrev pub DifferFrom : (List ℕ → Option Bool) → Option (Bor (List ℕ)) → Type 0
DifferFrom same None = ⊤
DifferFrom same (Some path) = Differ (same path.now)

-- the bytes that the two streams hold before and after, if they are known
pub record Streams : Type 0 where
  pub out_old : Option (List ℕ)
  pub out_new : Option (List ℕ)
  pub err_old : Option (List ℕ)
  pub err_new : Option (List ℕ)

-- only this output is written
pub record Prints (s : Streams) (status : ℕ) (o : Output) : Type 0 where
  pub written : Writes s.out_old s.out_new status o
  pub kept : Keeps s.err_old s.err_new

-- some text is written to standard error, and nothing to standard output
pub record Tells (s : Streams) (status : ℕ) (o : Output) : Type 0 where
  pub told : Writes s.err_old s.err_new status o
  pub kept : Keeps s.out_old s.out_new

abbrev pub not_text_output : Output
not_text_output = record {
  bytes = codes "error: a word of the command line is not UTF-8\n";
  status = 2;
}

-- ---- a trace beside the output

-- the bytes that the trace and the stream hold before and after, if they are known
pub record Written : Type 0 where
  pub trace_old : Option (List ℕ)
  pub trace_new : Option (List ℕ)
  pub out_old : Option (List ℕ)
  pub out_new : Option (List ℕ)

-- the events are written to the trace, and the output to the stream; if the trace failed, the
-- stream gets only `error file`
pub data WritesBoth (w : Written) (status : ℕ) (events : List Event) (o : Output) : Type 0 where
  whole : Appends w.trace_old w.trace_new (trace_text events)
      → Writes w.out_old w.out_new status o → WritesBoth w status events o
  no_trace : Writes w.out_old w.out_new status file_output → WritesBoth w status events o
