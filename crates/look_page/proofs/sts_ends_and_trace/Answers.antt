use Rattle.std.proofs.Common.{inr, refl}
use Rattle.sts_output.specs.Output.{memory_output}
use Rattle.look_ends.specs.Listing.{alone}
use Rattle.look_page.proofs.sts_ends_and_trace.Goals as goal

pub returns-in-Err : goal.returns-in-Err
returns-in-Err c = record {
  listing = alone memory_output;
  found = inr refl;
  printed = c.hand-in-Err-2.ensures;
  written = (c.hand-in-Err-2.ensures.0, c.hand-in-Err.ensures.1, c.hand-in-Err.ensures.2);
}
