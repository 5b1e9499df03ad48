-- Lists of the events of one kind that can come (this project's own).
use Rattle.std.specs.Prelude.{ℕ, Bool, length}
use Rattle.sts_model.specs.declared.event.Event.{Event}
use Rattle.sts_model.specs.declared.event.Event.TheVariants as event
use Rattle.sts_model.specs.World.{World}
use Rattle.ends_plain.specs.declared.events.Listing.{Listing}
use Rattle.ends_plain.specs.declared.events.Listing.TheVariants.{Steps, Interrupts, Expiries}
use Rattle.ends_plain.specs.Configs.{steps_now, interrupts_now, expires_now}

-- how many tasks or scopes may have such an event
abbrev pub born_of : Listing → World → ℕ
born_of (Steps p) w = length w.tasks
born_of (Interrupts left) w = length w.tasks
born_of (Expiries may) w = length w.scopes

-- the event of a task or scope
abbrev pub event_of : Listing → ℕ → Event
event_of (Steps p) n = event.Step n
event_of (Interrupts left) n = event.Interrupt n
event_of (Expiries may) n = event.Expire n

-- is it one of those that can come?
abbrev pub is_listed : Listing → World → Event → Bool
is_listed (Steps p) w = steps_now p.now w
is_listed (Interrupts left) w = interrupts_now left w
is_listed (Expiries may) w = expires_now may w
