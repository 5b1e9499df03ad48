-- What is printed of the ends of a text, and the trace that is kept (this project's own).
use Rattle.std.specs.Prelude.{◌≡◌, ◌⊎◌, ℕ, List, [], Bool, true, false, ◌&&◌}
use Rattle.std.specs.Prelude.{if◌then◌else◌, Option, Some, None, Result, Ok, Err}
use Rattle.sts_code.specs.Program.{Program}
use Rattle.sts_model.specs.declared.event.Event.{Event}
use Rattle.sts_rules.specs.Refusal.{IsAccepted, IsRefusal}
use Rattle.sts_rules.specs.declared.typing.Cause.{Cause}
use Rattle.sts_asm.specs.Text.{judged}
use Rattle.sts_asm.specs.declared.fault.AsmError.{AsmError}
use Rattle.sts_output.specs.Output.{Output, memory_output}
use Rattle.sts_output.specs.Streams.{Written, WritesBoth}
use Rattle.ends_plain.specs.Ends.{AreAll}
use Rattle.ends_plain.specs.Listed.{AreEnds, ends_of}
use Rattle.ends_plain.specs.declared.config.Found.{Found}
use Rattle.ends_plain.specs.declared.config.Setting.{Setting}
use Rattle.look_calls.specs.Calls.{AreCallEnds}
use Rattle.look_calls.specs.declared.found.CallEnd.{CallEnd}
use Rattle.look_end_lines.specs.Calls.{trace_of_call}
use Rattle.look_end_lines.specs.Form.{EndsForm}
use Rattle.look_end_lines.specs.InLines.{lines_form}
use Rattle.look_end_lines.specs.Lines.{found_at, has_number}
use Rattle.look_options.specs.declared.ends.Manner.{Manner}
use Rattle.look_options.specs.declared.ends.Manner.TheVariants as manner
use Rattle.look_options.specs.declared.ends.EndsOptions.{EndsOptions}

-- ---- what is printed

-- what is printed, and the events of the trace that is kept
pub record Listing : Type 0 where
  pub output : Output
  pub trace : List Event

-- this output, and no trace
abbrev pub alone : Output → Listing
alone o = record { output = o; trace = [] }

-- these bytes, this status and this trace
abbrev pub listing_of : List ℕ → ℕ → List Event → Listing
listing_of bytes status events =
    record { output = record { bytes = bytes; status = status }; trace = events }

abbrev pub events_of : Option Found → List Event
events_of None = []
events_of (Some f) = f.trace

-- the trace of the end whose number is asked for, the first one having number 1
abbrev pub trace_of : Option ℕ → List Found → List Event
trace_of None found = []
trace_of (Some k) found = events_of (found_at found k)

-- 0 if all schedules were tried, and an end that was asked for is there
abbrev pub status_of : Bool → Option ℕ → List Found → ℕ
status_of whole number found = if whole && has_number number found then 0 else 5

-- what is shown of a search, in any form
abbrev pub searched_listing : EndsForm → List ℕ → Setting → Bool → Option ℕ → List Found → ℕ → Bool
    → Option ℕ → Listing
searched_listing form text g is_refused number found states whole by_calls =
    listing_of (form.of_search text g is_refused number found states whole by_calls)
    (status_of whole number found) (trace_of number found)

-- what is shown of random schedules
abbrev pub sampled_listing : EndsForm → List ℕ → Program → ℕ → ℕ → Option ℕ → List Found → List ℕ
    → ℕ → Listing
sampled_listing form text p schedules seed number found times unfinished =
    listing_of (form.of_sample text p schedules seed number found times unfinished) 5
    (trace_of number found)

-- what is shown of the ends of calls
abbrev pub calls_listing : EndsForm → List ℕ → Program → Bool → Option ℕ → List CallEnd → ℕ → Bool
    → Listing
calls_listing form text p is_refused number found states is_cut_off =
    listing_of (form.of_calls text p is_refused number found states is_cut_off) 5
    (trace_of_call number found)

-- ---- of a program

abbrev pub setting : Program → EndsOptions → Setting
setting p w = record { program = p; expiries = w.expiries; interrupts = w.interrupts }

-- some place of the program has a cause, for which it is refused
pub record HasRefusal (p : Program) : Type 0 where
  pub function : ℕ
  pub place : ℕ
  pub cause : Cause
  pub refusal : IsRefusal p function place cause

-- whether the program is refused
abbrev pub IsVerdict : Program → Bool → Type 0
IsVerdict p true = HasRefusal p
IsVerdict p false = IsAccepted p

-- a listing of ends that were searched for: each of them is one, after the trace that comes with
-- it. If it says that it is of all schedules, each end that a list of allowed events leads to is
-- there, however long the list is. Nothing is known of the states of a search by calls, which found
-- no other end.
pub record IsSearch (form : EndsForm) (text : List ℕ) (g : Setting) (number : Option ℕ)
    (r : Listing) : Type 0 where
  pub found : List Found
  pub states : ℕ
  pub whole : Bool
  pub by_calls : Option ℕ
  pub is_refused : Bool
  pub sound : AreEnds g found
  pub complete : whole ≡ true → AreAll g.program g.expiries g.interrupts (ends_of found)
  pub verdict : IsVerdict g.program is_refused
  pub printed : r ≡ searched_listing form text g is_refused number found states whole by_calls

-- a listing of the ends of random schedules: each of them is one, after the trace that comes with
-- it
pub record IsSampling (form : EndsForm) (text : List ℕ) (g : Setting) (schedules seed : ℕ)
    (number : Option ℕ) (r : Listing) : Type 0 where
  pub found : List Found
  pub times : List ℕ
  pub unfinished : ℕ
  pub sound : AreEnds g found
  pub printed : r ≡ sampled_listing form text g.program schedules seed number found times unfinished

-- a listing of the ends of calls. After the trace of each line a task with this call has ended so,
-- heard by the joiner of its scope or not. Nothing says that a call has no other end
pub record IsCallsListing (form : EndsForm) (text : List ℕ) (g : Setting) (number : Option ℕ)
    (r : Listing) : Type 0 where
  pub found : List CallEnd
  pub states : ℕ
  pub is_cut_off : Bool
  pub is_refused : Bool
  pub sound : AreCallEnds g found
  pub unsearched : is_refused ≡ true → found ≡ []
  pub verdict : IsVerdict g.program is_refused
  pub printed : r ≡ calls_listing form text g.program is_refused number found states is_cut_off

abbrev pub ListsBy : EndsForm → Manner → List ℕ → Setting → Option ℕ → Listing → Type 0
ListsBy form (manner.All limits) text g number r = IsSearch form text g number r
ListsBy form (manner.Sample schedules seed) text g number r =
    IsSampling form text g schedules seed number r
ListsBy form (manner.Calls states) text g number r = IsCallsListing form text g number r

-- ---- of a text

-- the ends of the program, or the fault of a text that is none
abbrev pub ListsIn : EndsForm → Result Program AsmError → List ℕ → EndsOptions → Option ℕ → Listing
    → Type 0
ListsIn form (Ok p) text wanted number r =
    ListsBy form wanted.manner text (setting p wanted) number r
ListsIn form (Err e) text wanted number r = r ≡ alone (form.of_text_fault e text)

-- the same, or that memory was refused
abbrev pub IsListingIn : EndsForm → EndsOptions → Option ℕ → List ℕ → Listing → Type 0
IsListingIn form wanted number text r =
    ListsIn form (judged text) text wanted number r ⊎ (r ≡ alone memory_output)

-- in lines
abbrev pub IsListingOf : EndsOptions → Option ℕ → List ℕ → Listing → Type 0
IsListingOf wanted number text r = IsListingIn lines_form wanted number text r

-- ---- what is written

-- the trace that is kept is written to its file, and the output to the stream
abbrev pub ListingWrites : Written → ℕ → Listing → Type 0
ListingWrites w status r = WritesBoth w status r.trace r.output
