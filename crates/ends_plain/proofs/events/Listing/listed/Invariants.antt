use Rattle.ends_plain.specs.Listings.{event_of, is_listed}
use Rattle.ends_plain.proofs.EventLemmas.{Below}
use Rattle.ends_plain.proofs.events.Listing.listed.Given as goal

abbrev pub invariant-loop-n : goal.invariant-loop-n
invariant-loop-n l = Below (event_of l.self) (is_listed l.self l.world) l.n l.events.items
