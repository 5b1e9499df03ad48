-- What is printed of ends, whether their trace is written or not.
use Rattle.std.proofs.Common.{ℕ, List, refl}
use Rattle.std.specs.Prelude.{option_map, ⊤}
use Rattle.sts_output.specs.Output.{Output, Writes, file_output}
use Rattle.sts_output.specs.declared.taking.TakeError.TheVariants.{Read}
use Rattle.sts_output.specs.Streams.{Written, no_trace, whole}
use Rattle.look_ends.specs.Listing.{IsListingIn, Listing, ListingWrites}
use Rattle.look_args.specs.declared.asked.AskedEnds.{AskedEnds}
use Rattle.look.specs.Piping.{form_of}
use Rattle.look.specs.Ending.{IsPrinted, IsWritten, listed, printed, without_file}

-- the stream gets the output of the listing, or that the file of the trace failed
pub written_of : (r : Listing) (P : Type 0) (w : Written) (s : ℕ) → P → ListingWrites w s r → (o : Output) × IsWritten r P o × Writes w.out_old w.out_new s o
written_of r P w s spares (whole trace out) = (r.output, printed spares refl, out)
written_of r P w s spares (no_trace out) = (file_output, without_file Read refl, out)

-- the same, where the file of the trace is another file
pub beside : (r : Listing) (P : Type 0) (o : Output) → P → IsWritten r ⊤ o → IsWritten r P o
beside r P o spares (printed none same) = printed spares same
beside r P o spares (without_file e same) = without_file e same

-- what is written of a listing is printed of its text
pub printed_of : (ends : AskedEnds) (P : Type 0) (text : List ℕ) (r : Listing) (o : Output) → IsListingIn (form_of ends.json) ends.wanted (option_map (λ k. k.number) ends.kept) text r
    → IsWritten r P o → IsPrinted ends P text o
printed_of ends P text r o is (printed spares same) = listed spares r is same
printed_of ends P text r o is (without_file e same) = without_file e same
