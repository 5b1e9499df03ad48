-- The events of an outside text, and which journals come of them (this project's own).
use Rattle.std.specs.Prelude.{◌≡◌, ℕ, ◌≤◌, ◌<◌, List, [], ◌∷◌, length, take, slice_get, Option}
use Rattle.std.specs.Prelude.{Some, None, IfSome, IsSomeAnd, nat_le, if◌then◌else◌}
use Rattle.sts_model.specs.declared.event.Event.{Event}
use Rattle.sts_trace.specs.declared.outside.Due.{Due}
use Rattle.sts_pool.specs.Outside.{IsOutside, outside_entries}

-- the first event, if it is due when the journal has this number of entries
abbrev pub due_event : List Due → ℕ → Option Event
due_event [] entries = None
due_event (d ∷ ds) entries = if nat_le d.at entries then Some d.event else None

-- the events that are left then: one that isn't due holds back those after it
abbrev pub dues_left : List Due → ℕ → List Due
dues_left [] entries = []
dues_left (d ∷ ds) entries = if nat_le d.at entries then ds else d ∷ ds

-- the events before a question and after it, and the answer to it
abbrev pub dues_give : List Due → ℕ → Option Event → List Due → Type 0
dues_give dues entries answer left =
    (answer ≡ due_event dues entries) × (left ≡ dues_left dues entries)

-- The interrupts and expiries of a journal are the first of these events, in order.
pub record AreGiven (dues : List Due) (journal : List Event) : Type 0 where
  -- If entry `k` is an interrupt or an expiry, it is the next event, and is due at `k` entries. As
  -- many events came before it as there are interrupts and expiries before entry `k`.
  pub came : (k : ℕ) (e : Event) → slice_get journal k ≡ Some e → IsOutside e
      → IsSomeAnd (slice_get dues (outside_entries (take k journal)))
      (λ d. (d.event ≡ e) × (d.at ≤ k))
  -- The first event that did not come isn't due at the end.
  pub left : IfSome (slice_get dues (outside_entries journal)) (λ d. length journal < d.at)
