-- The trace of an end on standard output (this project's own).
use Rattle.std.specs.Prelude.{ℕ, Bool, true, false, List, Option, Some, None, if◌then◌else◌, codes}
use Rattle.std.specs.Borrow.{Bor}
use Rattle.std.specs.Str.{bytes_eq}
use Rattle.clap.specs.Words.{Text}
use Rattle.sts_output.specs.Output.{failure_output}
use Rattle.sts_output.specs.Streams.{Streams, Tells, Written, most_of_a_text}
use Rattle.sts_output.specs.Taking.{IsTakenOf}
use Rattle.sts_output.specs.declared.taking.TakeError.{TakeError}
use Rattle.look_end_lines.specs.Form.{EndsForm}
use Rattle.look_end_lines.specs.InLines.{lines_form}
use Rattle.look_ends.specs.Listing.{IsListingIn, Listing, ListingWrites}
use Rattle.look_options.specs.declared.ends.EndsOptions.{EndsOptions}
use Rattle.look_args.specs.declared.asked.Asked.{Asked}
use Rattle.look_args.specs.declared.asked.Asked.TheVariants as asked
use Rattle.look_args.specs.declared.asked.Kept.{Kept}
use Rattle.look_ends_json.specs.Ends.{json_form}
use Rattle.look.specs.declared.piped.Piped.{Piped}

-- lines of JSON or not
abbrev pub form_of : Bool → EndsForm
form_of true = json_form
form_of false = lines_form

-- the end whose trace goes to standard output, if the file of the trace is named `-`
abbrev pub piped_by : Bor Text → EndsOptions → Bool → Option Kept → Option Piped
piped_by file wanted json None = None
piped_by file wanted json (Some kept) =
    if bytes_eq kept.file.now (codes "-")
    then Some (record { file = file; wanted = wanted; json = json; number = kept.number })
    else None

-- the end whose trace a line asks for on standard output, if it does
abbrev pub piped_of : Asked → Option Piped
piped_of (asked.Ends file ends) = piped_by file ends.wanted ends.json ends.kept
piped_of _ = None

-- the trace goes to standard output, and what is printed goes to standard error
abbrev pub crossed : Streams → Written
crossed s = record {
  trace_old = s.out_old;
  trace_new = s.out_new;
  out_old = s.err_old;
  out_new = s.err_new;
}

-- the trace and what is printed of the ends of a text, or that memory ran out
pub data IsPipedText (p : Piped) (text : List ℕ) (s : Streams) (status : ℕ) : Type 0 where
  listed : (r : Listing) → IsListingIn (form_of p.json) p.wanted (Some p.number) text r
      → ListingWrites (crossed s) status r → IsPipedText p text s status
  without : (e : TakeError) → Tells s status (failure_output e) → IsPipedText p text s status

-- the same for a file's text, or that the file failed
pub data IsPiped (p : Piped) (file : Option (List ℕ)) (s : Streams) (status : ℕ) : Type 0 where
  of_text : (text : List ℕ) → IsTakenOf file most_of_a_text text → IsPipedText p text s status
      → IsPiped p file s status
  failed : (e : TakeError) → Tells s status (failure_output e) → IsPiped p file s status
