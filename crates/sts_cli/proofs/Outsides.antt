-- Events of an outside text come from outside.
use Rattle.std.proofs.Common.{List, IsTrue, refl}
use Rattle.std.proofs.lemmas.List.Elements.{All-weaker}
use Rattle.std.specs.List.{All}
use Rattle.sts_model.specs.declared.event.Event.{Event}
use Rattle.sts_model.specs.declared.event.Event.TheVariants.{Step, Interrupt, Expire}
use Rattle.sts_trace.specs.Spelling.{AreDues, IsDue, is_outside}
use Rattle.sts_trace.specs.declared.outside.Due.{Due}
use Rattle.sts_pool.specs.Outside.{IsOutside}

no_step : (e : Event) → IsTrue (is_outside e) → IsOutside e
no_step (Step t) is = absurd (cc)
no_step (Interrupt t) is = refl
no_step (Expire s) is = refl

pub all_outside : (dues : List Due) → AreDues dues → All (λ d. IsOutside d.event) dues
all_outside dues are = All-weaker IsDue (λ d. IsOutside d.event) (λ d is. no_step d.event is.2) dues are.1
