-- The book of a run: a machine, the journal of its events, and which tasks are out (this project's
-- own).
use Rattle.std.specs.Prelude.{◌≡◌, ℕ, ◌+◌, ◌≤◌, ◌<◌, ◌^◌, List, [], ◌++◌, length, count_by, Bool}
use Rattle.std.specs.Prelude.{true, not, ◌&&◌, ◌==◌, eqb, Option, IfSome, MatchOption, option_map}
use Rattle.std.specs.List.{list_any, IsDistinct}
use Rattle.sts_code.specs.Program.{Program}
use Rattle.sts_code.specs.declared.limits.TheConstants.{MAX_OUTSIDE}
use Rattle.sts_code.specs.declared.profile.Profile.TheVariants.{One}
use Rattle.sts_model.specs.declared.event.Event.{Event}
use Rattle.sts_model.specs.declared.event.Event.TheVariants.{Step}
use Rattle.sts_model.specs.Run.{after, counts, is_step}
use Rattle.laws_live.specs.Reading.{lives_in}
use Rattle.laws_live.specs.Seen.{TurnsAreSeen}
use Rattle.laws_live.specs.Stands.{StandsStay}
use Rattle.laws_live.specs.Waiting.{live_can_step}
use Rattle.laws_accepted.specs.Views.{ViewsAreWithin}
use Rattle.sts_machine.specs.Laws.{MainBudget}
use Rattle.sts_machine.specs.Machine.{Seen, Stands}
use Rattle.sts_machine.specs.Slice.{Cut, Fits}
use Rattle.sts_pool.specs.Journal.{Holds}
use Rattle.sts_pool.specs.Outside.{outside_entries}
use Rattle.sts_pool.specs.declared.journal.Journal.{Journal}

-- ---- what contracts see of a book

-- a program without functions, until one is picked
abbrev pub no_program : Program
no_program = record { profile = One; routines = [] }

-- its program, its machine, the journal of the machine's events (if it is written), the number of
-- entries from outside, and the tasks that are out
pub record BookSeen : Type 0 where
  pub program : Program
  pub machine : Seen
  pub journal : Option (List Event)
  pub outside : ℕ
  pub out : List ℕ

abbrev pub book_of : Seen → Option (List Event) → ℕ → List ℕ → BookSeen
book_of m journal outside out = record {
  program = m.program;
  machine = m;
  journal = journal;
  outside = outside;
  out = out;
}

-- the events may be the journal's entries: they lead to the state of the machine, and each is a
-- step that was taken or one of the events from outside
pub record MayBe (b : BookSeen) (events : List Event) : Type 0 where
  pub stands : Stands b.machine events
  pub outside : outside_entries events ≡ b.outside
  pub counted : length events ≡ b.machine.steps + b.outside

-- the events are the journal's entries if they are written; otherwise they may be its entries
pub record IsJournal (b : BookSeen) (events : List Event) : Type 0 where
  pub may : MayBe b events
  pub written : IfSome b.journal (λ entries. entries ≡ events)

-- a fact holds of the journal: of its entries if they are written, otherwise of all events that may
-- be its entries
abbrev pub OfJournal : BookSeen → (List Event → Type 0) → Type 0
OfJournal b P = MatchOption b.journal ((events : List Event) → MayBe b events → P events) P

-- these events were recorded: a written journal has them at its end, the steps and those from
-- outside were counted, and they lead to the new state of the machine
pub record Records (old new : BookSeen) (events : List Event) : Type 0 where
  pub written : new.journal ≡ option_map (λ journal. journal ++ events) old.journal
  pub steps : new.machine.steps ≡ old.machine.steps + count_by is_step events
  pub outside : new.outside ≡ old.outside + outside_entries events
  pub stands : (before : List Event) → Stands old.machine before
      → Stands new.machine (before ++ events)

-- is the task out?
abbrev pub is_out : BookSeen → ℕ → Bool
is_out b t = list_any (λ o. o == t) b.out

-- would a step of the task count after these events, and is the task not out?
abbrev pub may_turn : BookSeen → List Event → ℕ → Bool
may_turn b events t = counts b.program (after b.program events) (Step t) && not (is_out b t)

-- the same, as the machine shows it
abbrev pub is_free : BookSeen → ℕ → Bool
is_free b t = live_can_step b.machine.program b.machine.live t && not (is_out b t)

-- the slice was taken out of this book, and its task hasn't changed since
abbrev pub IsOurs : BookSeen → Cut → Type 0
IsOurs b s = (is_out b s.task ≡ true) × Fits b.machine s

-- ---- what the type of a book keeps

-- the events lead to the state of the machine, each of them is a step that counted or came from
-- outside, and the tasks that are out live
pub record IsBook (m : Seen) (events : List Event) (out : List ℕ) : Type 0 where
  pub stands : Stands m events
  pub counted : length events ≡ m.steps + outside_entries events
  pub most : outside_entries events ≤ MAX_OUTSIDE
  pub apart : IsDistinct eqb out
  pub living : (t : ℕ) → list_any (λ o. o == t) out ≡ true → lives_in m.live t ≡ true

-- the laws of its program, and room in its two lists by the budget of `main`
pub record HasBookRoom (p : Program) (journal out : ℕ) : Type 0 where
  pub main : MainBudget p
  pub few : main.budget.steps < 2 ^ 32
  pub stay : StandsStay p
  pub turns : TurnsAreSeen p
  pub within : ViewsAreWithin p
  pub journal_room : main.budget.steps + MAX_OUTSIDE ≤ journal
  pub out_room : main.budget.tasks ≤ out

-- Some list of events leads to the state of the machine, and has the counted number of events from
-- outside. If the journal is written, it has these events, and there is room for more.
pub record IsKept (m : Seen) (journal : Journal) (outside : ℕ) (out : List ℕ) (out_room : ℕ)
    : Type 0 where
  pub events : List Event
  pub book : IsBook m events out
  pub entries : outside_entries events ≡ outside
  pub journal_room : ℕ
  pub holds : Holds journal events journal_room
  pub room : HasBookRoom m.program journal_room out_room
