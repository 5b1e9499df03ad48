-- What contracts see of a machine, and which lists of events lead to it (this project's own).
use Rattle.std.specs.Prelude.{ℕ, List}
use Rattle.sts_code.specs.Program.{Program}
use Rattle.sts_rules.specs.declared.budget.Budgets.{Budgets}
use Rattle.sts_rules.specs.Refusal.{IsBudgetOf}
use Rattle.sts_model.specs.declared.event.Event.{Event}
use Rattle.sts_model.specs.Live.{Live}
use Rattle.laws_live.specs.Seen.{StandsAt}
use Rattle.laws_accepted.specs.Accepted.{main_of}
use Rattle.sts_store.specs.Parts.{Parts, Unseen, live_of, unseen_of}
use Rattle.sts_machine.specs.Laws.{HasLaws}
use Rattle.sts_machine.specs.Standing.{AreStanding}
use Rattle.sts_machine.specs.Room.{HasRoomOf}

-- its program, its live view, the parts that the view doesn't show, and the steps that it took
pub record Seen : Type 0 where
  pub program : Program
  pub live : Live
  pub unseen : Unseen
  pub steps : ℕ

-- these events lead to the view and the steps of the machine
abbrev pub Stands : Seen → List Event → Type 0
Stands m events = StandsAt m.program events m.live m.steps

-- Some list of events leads to the machine. Its store has recorded at which scope each task is. The
-- numbers that count and the room that is left add up to the budgets of `main`. The laws of its
-- program hold.
pub record IsMachine (p : Program) (m : Parts) (steps : ℕ) : Type 0 where
  pub events : List Event
  pub stands : StandsAt p events (live_of m) steps
  pub standing : AreStanding p (live_of m) (unseen_of m)
  pub room : (b : Budgets) → IsBudgetOf p (main_of p) b → HasRoomOf b (live_of m) (unseen_of m)
  pub laws : HasLaws p
