-- The ends of a program over all schedules. Each listed end is one. If the answer says that the
-- list is whole, every end is listed (this project's own).
use Rattle.std.specs.Prelude.{◌≡◌, ℕ, ◌≤◌, List, Bool, true, false, count_by}
use Rattle.std.specs.List.{Contains}
use Rattle.sts_code.specs.Program.{Program}
use Rattle.sts_model.specs.declared.event.Event.{Event}
use Rattle.sts_model.specs.declared.event.Event.TheVariants as event
use Rattle.sts_model.specs.Run.{after}
use Rattle.sts_plain.specs.declared.misstep.PlainState.{PlainState}
use Rattle.sts_plain.specs.declared.misstep.PlainState.TheVariants as plain
use Rattle.sts_plain.specs.Seen.{shown}

-- ---- events that are allowed

abbrev pub is_interrupt : Event → Bool
is_interrupt (event.Interrupt t) = true
is_interrupt _ = false

abbrev pub is_expiry : Event → Bool
is_expiry (event.Expire s) = true
is_expiry _ = false

-- steps may come anywhere, interrupts up to a limit, and expiries if they are allowed
pub record IsAllowed (may_expire : Bool) (most : ℕ) (events : List Event) : Type 0 where
  pub interrupts : count_by is_interrupt events ≤ most
  pub expiries : may_expire ≡ false → count_by is_expiry events ≡ 0

-- ---- ends

-- the root's end, or a fault
abbrev pub is_end : PlainState → Bool
is_end plain.Running = false
is_end _ = true

-- what the program shows after these events
abbrev pub shown_after : Program → List Event → PlainState
shown_after p events = shown (after p events)

-- the events are allowed, and the program ends like this after them
pub record IsEnd (p : Program) (may_expire : Bool) (most : ℕ) (events : List Event)
    (end : PlainState) : Type 0 where
  pub allowed : IsAllowed may_expire most events
  pub comes : shown_after p events ≡ end
  pub ends : is_end end ≡ true

-- the end after any allowed events is among these
abbrev pub AreAll : Program → Bool → ℕ → List PlainState → Type 0
AreAll p may_expire most ends =
    (events : List Event) (end : PlainState) → IsEnd p may_expire most events end
    → Contains ends end
