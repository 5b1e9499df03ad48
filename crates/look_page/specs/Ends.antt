-- The ends of a text, and the trace of one of them (this project's own).
use Rattle.std.specs.Prelude.{◌≡◌, ℕ, Bool, List, None, Some}
use Rattle.sts_output.specs.Output.{Output}
use Rattle.sts_trace.specs.Spelling.{trace_text}
use Rattle.look_ends.specs.Listing.{IsListingOf, Listing}
use Rattle.look_options.specs.declared.ends.Manner.TheVariants.{All}
use Rattle.look_options.specs.declared.ends.EndsOptions.{EndsOptions}
use Rattle.look_page.specs.Handed.{IsHanded, Received}

-- what `look ends --most N --interrupts M` asks for, with `--no-expiries` if no scope may expire
abbrev pub ends_wanted : ℕ → Bool → ℕ → EndsOptions
ends_wanted most expiries interrupts = record {
  expiries = expiries;
  interrupts = interrupts;
  manner = All (record { states = Some most; seconds = None });
}

-- what it prints
abbrev pub IsListing : EndsOptions → List ℕ → Output → Type 0
IsListing wanted text o = (r : Listing) × IsListingOf wanted None text r × (o ≡ r.output)

-- one room gets the lines that `look ends --trace K` prints, and another one the trace that it
-- writes: both are of one listing
pub record HandsEnds (wanted : EndsOptions) (number : ℕ) (text : List ℕ)
    (lines trace : Received) : Type 0 where
  pub listing : Listing
  pub found : IsListingOf wanted (Some number) text listing
  pub printed : IsHanded listing.output.bytes listing.output.status lines
  pub written : IsHanded (trace_text listing.trace) listing.output.status trace
