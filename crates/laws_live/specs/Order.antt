-- Facts of every live view after a list of events, in words of the view alone (this project's own).
use Rattle.std.specs.Prelude.{◌≡◌, ℕ, ◌<◌, ◌≤◌, List, [], ◌++◌, true, false, Option, Some, None}
use Rattle.std.specs.Prelude.{is_some, count_by, filter_map}
use Rattle.std.specs.List.{list_any}
use Rattle.sts_code.specs.Program.{Program}
use Rattle.sts_model.specs.declared.event.Event.{Event}
use Rattle.sts_model.specs.declared.record.Slot.TheVariants.{Own, Lent, Sub}
use Rattle.sts_model.specs.declared.record.Bound.{Bound}
use Rattle.sts_model.specs.Environment.{bound_of}
use Rattle.sts_model.specs.Living.{is_closed}
use Rattle.sts_model.specs.Misuse.{slot, is_entry_of}
use Rattle.sts_model.specs.Live.{Live}
use Rattle.laws_live.specs.Seen.{StandsAt}
use Rattle.laws_live.specs.Reading.{task_in, scope_in, live_task_at, live_scope_at, alive_at}
use Rattle.laws_live.specs.Reading.{lives_in}

-- the scope is in the view, isn't closed, and belongs to t
pub record IsOwned (v : Live) (t s : ℕ) : Type 0 where
  pub stands : is_some (scope_in v s) ≡ true
  pub owner : (live_scope_at v s).owner ≡ t
  pub still : is_closed (live_scope_at v s).phase ≡ false

-- a subtask in the view, of a scope that belongs to t
pub record IsOwnSub (v : Live) (t u : ℕ) : Type 0 where
  pub scope : ℕ
  pub inside : (live_task_at v u).scope ≡ Some scope
  pub owned : IsOwned v t scope

-- the environment of a task of this scope, without its own bindings
abbrev pub outer_in : Live → Option ℕ → List Bound
outer_in v None = []
outer_in v (Some s) = (live_scope_at v s).environment

-- the scope is in the structure list of a living task
abbrev pub HasEntry : Live → ℕ → ℕ → Type 0
HasEntry v t s = list_any (is_entry_of s) (alive_at v t).frame.entries ≡ true

-- A living task is in order. Each scope and subtask in its slots and entries is in the view, and is
-- its own or lent. Its environment has its bindings. It has no state as a subtask.
pub record LivesInOrder (v : Live) (t : ℕ) : Type 0 where
  pub own : (x s : ℕ) → slot (alive_at v t).frame x ≡ Own s → IsOwned v t s
  pub lent : (x s : ℕ) → slot (alive_at v t).frame x ≡ Lent s → (live_task_at v t).scope ≡ Some s
  pub sub : (x u : ℕ) → slot (alive_at v t).frame x ≡ Sub u → IsOwnSub v t u
  pub entered : (s : ℕ) → HasEntry v t s → IsOwned v t s
  pub once : (s : ℕ) → HasEntry v t s → count_by (is_entry_of s) (alive_at v t).frame.entries ≤ 1
  pub environment : (alive_at v t).environment
      ≡ filter_map bound_of (alive_at v t).frame.entries ++ outer_in v (live_task_at v t).scope
  pub state : (live_task_at v t).state ≡ None

-- a scope in the view is an entry of its owner, which lives
pub record IsHeld (v : Live) (s : ℕ) : Type 0 where
  pub alive : lives_in v (live_scope_at v s).owner ≡ true
  pub entry : HasEntry v (live_scope_at v s).owner s

-- the scope of a task in the view is in the view too, and its owner was born before the task
pub record IsInside (v : Live) (u s : ℕ) : Type 0 where
  pub stands : is_some (scope_in v s) ≡ true
  pub before : (live_scope_at v s).owner < u

pub record InOrder (v : Live) : Type 0 where
  pub alive : (t : ℕ) → lives_in v t ≡ true → LivesInOrder v t
  pub held : (s : ℕ) → is_some (scope_in v s) ≡ true → IsHeld v s
  pub inside : (u s : ℕ) → (live_task_at v u).scope ≡ Some s → IsInside v u s
  pub root : is_some (task_in v 0) ≡ true

abbrev pub SeenInOrder : Type 0
SeenInOrder =
    (p : Program) (events : List Event) (v : Live) (n : ℕ) → StandsAt p events v n → InOrder v
