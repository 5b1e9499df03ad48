-- What a table covers of a run: each living task, or only those that are watched, by a state of its
-- call (this project's own).
use Rattle.std.specs.Prelude.{◌≡◌, ℕ, ◌≤◌, ◌⊎◌, List, [], ◌∷◌, Bool, true, false, Option, Some}
use Rattle.std.specs.Prelude.{slice_get, map, find, option_map, count_by, zero, suc, ◌+◌, length}
use Rattle.std.specs.List.{filter}
use Rattle.sts_code.specs.Program.{Program}
use Rattle.sts_model.specs.declared.event.End.{End}
use Rattle.sts_model.specs.declared.event.Event.{Event}
use Rattle.sts_model.specs.declared.event.Event.TheVariants as event
use Rattle.sts_model.specs.declared.event.Phase.TheVariants.{Closing}
use Rattle.sts_model.specs.declared.record.Completion.{Completion}
use Rattle.sts_model.specs.declared.record.Slot.{Slot}
use Rattle.sts_model.specs.declared.record.Slot.TheVariants as slots
use Rattle.sts_model.specs.declared.record.Frame.{Frame}
use Rattle.sts_model.specs.declared.record.Scope.{Scope}
use Rattle.sts_model.specs.World.{World, task_at, scope_at}
use Rattle.sts_model.specs.Living.{lives, is_subtask, completion_of, scope_of, ends}
use Rattle.sts_model.specs.Joining.{is_failure}
use Rattle.sts_model.specs.Misuse.{is_joined}
use Rattle.laws_runs.specs.Tallies.{births}
use Rattle.laws_calls.specs.Held.{Held}
use Rattle.laws_calls.specs.Held as held
use Rattle.laws_calls.specs.Outside.{Outside, may_flag}
use Rattle.laws_calls.specs.Tasks.{Among, AllTwo, at_place, HasWay, Part, Knowledge, Unseen}
use Rattle.laws_calls.specs.Tasks.{ByJoiner, Late, nothing, Heard, Seen, May, Own, bare, births_in}
use Rattle.laws_calls.specs.Fitting.{MayCount, Answers}
use Rattle.laws_calls.specs.Triggers.{triggers}
use Rattle.laws_calls.specs.Steps.{Row, Table}

-- the subtasks of a scope by birth, in fork order
abbrev pub subs : World → ℕ → List ℕ
subs w s = filter (λ u. is_subtask s (task_at w u)) (births w)

-- ---- scopes

-- What became of the subtask u is possible for its part. While it lives and its scope is not
-- cancelled, each way of its call is.
pub record PartFits (rows : ℕ → Row) (alive : ℕ → Bool) (scope : Scope) (u : ℕ) (part : Part)
    : Type 0 where
  pub may : May part (completion_of scope.completions u)
  pub whole : alive u ≡ true → scope.cancelled ≡ false → (e : End) → HasWay (rows u).ways e
      → HasWay part.ways e

-- what is known of a cancel is right
abbrev pub IsRight : Knowledge → Scope → Type 0
IsRight Unseen scope = Unit {0}
IsRight ByJoiner scope = scope.cancelled ≡ true
IsRight Late scope = (scope.cancelled ≡ true) × (scope.expired ≡ true)
IsRight Heard scope = (scope.cancelled ≡ false) × (is_joined scope.phase ≡ true)

-- a scope that its joiner had cancelled before the `join` had not expired then
abbrev pub IsOnTime : Seen → Scope → Type 0
IsOnTime x scope =
    x.knowledge ≡ ByJoiner → is_joined x.phase ≡ true → scope.expired ≡ false

-- after a `join`: the answers that its owner got to questions on its subtasks
abbrev pub IsAsked : Seen → List (Option End) → Type 0
IsAsked x states =
    (x.asked ≡ nothing) ⊎ ((is_joined x.phase ≡ true) × Answers x.asked states)

abbrev pub AllEarly : List Part → Type 0
AllEarly [] = Unit {0}
AllEarly (part ∷ parts) = (part.is_early ≡ true) × AllEarly parts

-- the task that failed first
abbrev pub first_failed : List Completion → Option ℕ
first_failed completions =
    option_map (λ (c : Completion). c.task)
    (find (λ (c : Completion). is_failure c.end) completions)

-- its part is early
pub record FailedFirst (scope : Scope) (subtasks : List ℕ) (parts : List Part) : Type 0 where
  pub task : ℕ
  pub i : ℕ
  pub part : Part
  pub failed : first_failed scope.completions ≡ Some task
  pub sub : slice_get subtasks i ≡ Some task
  pub known : slice_get parts i ≡ Some part
  pub is_early : part.is_early ≡ true

-- all parts are early until a failure is seen; then at least that which failed first is
abbrev pub InOrder : Bool → Scope → List ℕ → List Part → Type 0
InOrder false scope subtasks parts = AllEarly parts
InOrder true scope subtasks parts = FailedFirst scope subtasks parts

pub record ScopeFits (rows : ℕ → Row) (alive : ℕ → Bool) (scope : Scope) (subtasks : List ℕ)
    (x : Seen) : Type 0 where
  pub joiner : x.joiner ≡ scope.joiner
  pub timed : x.timed ≡ scope.timed
  pub environment : x.environment ≡ scope.environment
  pub phase : (scope.phase ≡ x.phase) ⊎ (scope.phase ≡ Closing)
  pub known : IsRight x.knowledge scope
  pub on_time : IsOnTime x scope
  pub parts : AllTwo (PartFits rows alive scope) subtasks x.parts
  pub counts : MayCount x.knowledge x.phase x.joiner (triggers x.joiner (ends scope))
  pub order : is_joined x.phase ≡ false → InOrder x.has_failure scope subtasks x.parts
  pub asked : IsAsked x (map (completion_of scope.completions) subtasks)

-- ---- tasks

-- the slots of a task whose open scopes are these, by birth
abbrev pub HeldFits : World → List ℕ → Slot → Held → Type 0
HeldFits w opened slots.Empty held.Empty = Unit {0}
HeldFits w opened (slots.Own s) (held.Own place) = at_place opened place ≡ Some s
HeldFits w opened (slots.Lent s) held.Lent = Unit {0}
HeldFits w opened (slots.Sub u) (held.Sub place i) =
    (s : ℕ) × ((at_place opened place ≡ Some s) × (slice_get (subs w s) i ≡ Some u))
HeldFits w opened _ _ = ⊥

abbrev pub alive_in : World → ℕ → Bool
alive_in w u = lives (task_at w u)

-- the scope s fits what its owner knows of it
abbrev pub SeenFits : (ℕ → Row) → World → ℕ → Seen → Type 0
SeenFits rows w s x = ScopeFits rows (alive_in w) (scope_at w s) (subs w s) x

-- a frame of a task is that of the state
pub record FrameFits (rows : ℕ → Row) (w : World) (f : Frame) (own : Own) : Type 0 where
  pub frame : bare f ≡ own.frame
  pub held : AllTwo (HeldFits w (births_in f.entries)) f.slots own.held
  pub scopes : AllTwo (SeenFits rows w) (births_in f.entries) own.scopes

-- a flag of a task may be so
abbrev pub FlagMayBe : Outside → Bool → Type 0
FlagMayBe outside flag = flag ≡ true → may_flag outside ≡ true

-- the task u is in this state of its row
pub record TaskFits (outside : Outside) (rows : ℕ → Row) (w : World) (u : ℕ) (own : Own)
    : Type 0 where
  pub there : Among (rows u).states own
  pub fits : FrameFits rows w (task_at w u).frame own
  pub flag : FlagMayBe outside (task_at w u).flag
  pub environment : (scope_of w u).environment ≡ (rows u).call.environment

-- the task u is in a state of its row, with no more births left than these
abbrev pub HasState : Outside → (ℕ → Row) → (ℕ → ℕ) → World → ℕ → Type 0
HasState outside rows left w u =
    (own : Own) × TaskFits outside rows w u own × (own.left ≤ left u)

-- ---- runs

-- the root is watched, and a subtask of a scope that is not cancelled and whose owner is watched
pub data Watched (w : World) : ℕ → Type 0 where
  watched_root : Watched w 0
  watched_sub : {u : ℕ} (s : ℕ) → (task_at w u).scope ≡ Some s → (scope_at w s).cancelled ≡ false
      → Watched w (scope_at w s).owner → Watched w u

-- a task that a table has to cover: any, if a cancel may come, or else one that is watched
abbrev pub IsCovered : Outside → World → ℕ → Type 0
IsCovered outside w u = (outside.cancels ≡ true) ⊎ Watched w u

-- only a timed scope expires
abbrev pub IsTimely : Scope → Type 0
IsTimely scope = scope.expired ≡ true → scope.timed ≡ true

-- the sum of the first values
abbrev pub sum_to : (ℕ → ℕ) → ℕ → ℕ
sum_to f zero = 0
sum_to f (suc n) = sum_to f n + f n

pub record Covers (p : Program) (outside : Outside) (t : Table) (root : Row) (w : World)
    : Type 0 where
  pub rows : ℕ → Row
  pub listed : (u : ℕ) → Among t (rows u)
  pub first : rows 0 ≡ root
  -- the births that are left to each task, and those that came: no more than the root's row allows
  pub left : ℕ → ℕ
  pub births : outside.cancels ≡ true
      → length w.tasks + length w.scopes + sum_to left (length w.tasks) ≤ 1 + root.births
  pub timely : (s : ℕ) → IsTimely (scope_at w s)
  -- each living task that the table has to cover is in a state of its row
  pub tasks : (u : ℕ) → lives (task_at w u) ≡ true → IsCovered outside w u
      → HasState outside rows left w u
  -- the root has ended by a way of its call
  pub ended : (e : End) → (task_at w 0).outcome ≡ Some e → HasWay root.ways e

abbrev pub is_interrupt : Event → Bool
is_interrupt (event.Interrupt t) = true
is_interrupt _ = false

-- Any steps and expiries, and interrupts up to a limit. If a cancel may come, which sets flags too,
-- there is no limit.
abbrev pub AreWithin : Outside → List Event → Type 0
AreWithin outside events =
    (outside.cancels ≡ true) ⊎ (count_by is_interrupt events ≤ outside.interrupts)
