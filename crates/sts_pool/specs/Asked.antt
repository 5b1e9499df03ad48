-- A book with the outside that it asks (this project's own).
use Rattle.std.specs.Prelude.{◌≡◌, ℕ, List, Bool, true, Option, IfSome, is_some}
use Rattle.sts_code.specs.Program.{Program}
use Rattle.sts_model.specs.declared.event.Event.{Event}
use Rattle.sts_pool.specs.Book.{BookSeen, IsJournal}
use Rattle.sts_pool.specs.Outside.{Gave, IsGiven}

-- the outside, if there is one, gave the interrupts and expiries of the book's journal; it has no
-- other event to give
pub record HasGiven {O : Type 0} (gives : O → ℕ → Option Event → O → Type 0) (first : Option O)
    (b : BookSeen) : Type 0 where
  pub events : List Event
  pub journal : IsJournal b events
  pub given : IfSome first (λ o. IsGiven gives o events)

-- The book is of this program, and its journal is written or not. The outside gave the interrupts
-- and expiries of the journal. If `is_spent` is true, it has no other event to give.
pub record IsAsked {O : Type 0} (gives : O → ℕ → Option Event → O → Type 0) (p : Program)
    (is_written : Bool) (first : Option O) (b : BookSeen) (outside : O) (is_spent : Bool)
    : Type 0 where
  pub program : b.program ≡ p
  pub written : is_some b.journal ≡ is_written
  pub events : List Event
  pub journal : IsJournal b events
  pub gave : IfSome first (λ o. Gave gives o events outside)
  pub spent : is_spent ≡ true → HasGiven gives first b
