use Rattle.std.proofs.Common.{ℕ, List, inr, refl}
use Rattle.sts_output.specs.Output.{memory_output}
use Rattle.look_ends.specs.Listing.{alone}
use Rattle.look_page.specs.declared.printing.Asked.{Asked}
use Rattle.look_page.specs.declared.printing.Asked.TheVariants as asked
use Rattle.look_page.specs.Printed.{Prints}
use Rattle.look_page.proofs.shown.Goals as goal

-- memory may run out for any request
refused : (a : Asked) (text trace : List ℕ) → Prints a text trace memory_output
refused asked.Verify text trace = inr refl
refused asked.List text trace = inr refl
refused asked.Plain text trace = inr refl
refused (asked.View wanted) text trace = inr refl
refused (asked.NamedView wanted) text trace = inr refl
refused asked.Explanation text trace = inr refl
refused asked.RunExplanation text trace = inr refl
refused (asked.Picture brief) text trace = inr refl
refused (asked.Ends wanted) text trace = (alone memory_output, inr refl, refl)

pub returns : goal.returns
returns c = (memory_output, refused c.args.asked c.args.text.now c.args.trace.now, c.hand-in-Err.ensures)
