-- States that differ only by the birth numbers of their tasks and scopes, and in parts that no
-- later event reads (this project's own). These parts are frames and flags of tasks that don't
-- live, and scoped values.
use Rattle.std.specs.Prelude.{◌≡◌, ℕ, ◌≤◌, List, [], length, map, Bool, true, false, Some}
use Rattle.std.specs.Prelude.{option_map, fold, if◌then◌else◌}
use Rattle.std.specs.List.{sum_by}
use Rattle.sts_code.specs.Program.{Program}
use Rattle.sts_code.specs.declared.instr.Instr.{Instr}
use Rattle.sts_code.specs.declared.instr.Instr.TheVariants.{Read, Bound, OrElse}
use Rattle.sts_model.specs.declared.event.Event.{Event}
use Rattle.sts_model.specs.declared.event.Event.TheVariants as event
use Rattle.sts_model.specs.declared.record.Completion.{Completion}
use Rattle.sts_model.specs.declared.record.Entry.{Entry}
use Rattle.sts_model.specs.declared.record.Entry.TheVariants as entry
use Rattle.sts_model.specs.declared.record.Frame.{Frame}
use Rattle.sts_model.specs.declared.record.Scope.{Scope}
use Rattle.sts_model.specs.declared.record.Slot.{Slot}
use Rattle.sts_model.specs.declared.record.Slot.TheVariants.{Empty, Own, Lent, Sub}
use Rattle.sts_model.specs.declared.record.Task.{Task}
use Rattle.sts_model.specs.World.{World, State, Running, Faulted, task_at, scope_at, no_task}
use Rattle.sts_model.specs.World.{instr_at}
use Rattle.sts_model.specs.Living.{lives}
use Rattle.sts_model.specs.Run.{apply}

-- the birth number in the second state, for each birth number in the first
pub record Names : Type 0 where
  pub tasks : ℕ → ℕ
  pub scopes : ℕ → ℕ

-- ---- records under other names

abbrev pub named_slot : Names → Slot → Slot
named_slot n Empty = Empty
named_slot n (Own s) = Own (n.scopes s)
named_slot n (Lent s) = Lent (n.scopes s)
named_slot n (Sub t) = Sub (n.tasks t)

abbrev pub named_entry : Names → Entry → Entry
named_entry n (entry.Scope s) = entry.Scope (n.scopes s)
named_entry n (entry.Binding k v) = entry.Binding k v

abbrev pub named_frame : Names → Frame → Frame
named_frame n f =
    record f { entries = map (named_entry n) f.entries; slots = map (named_slot n) f.slots }

abbrev pub named_task : Names → Task → Task
named_task n x = record x { frame = named_frame n x.frame; scope = option_map n.scopes x.scope }

abbrev pub named_completion : Names → Completion → Completion
named_completion n c = record c { task = n.tasks c.task }

abbrev pub named_scope : Names → Scope → Scope
named_scope n x =
    record x { owner = n.tasks x.owner; completions = map (named_completion n) x.completions }

abbrev pub named_event : Names → Event → Event
named_event n (event.Step t) = event.Step (n.tasks t)
named_event n (event.Interrupt t) = event.Interrupt (n.tasks t)
named_event n (event.Expire s) = event.Expire (n.scopes s)

-- ---- what later events can read

-- a task without the frame and the flag, unless it lives
abbrev pub live_part : Task → Task
live_part x = if lives x then x else record x { frame = no_task.frame; flag = false }

-- a scope without its scoped values
abbrev pub plain_part : Scope → Scope
plain_part x = record x { environment = [] }

-- does the instruction read a scoped value?
abbrev pub is_reading : Instr → Bool
is_reading (Read k) = true
is_reading (Bound k) = true
is_reading (OrElse k) = true
is_reading _ = false

-- no instruction of the program reads a scoped value
abbrev pub ReadsNothing : Program → Type 0
ReadsNothing p = (f : Frame) (i : Instr) → instr_at p f ≡ Some i → is_reading i ≡ false

-- ---- states that are alike

abbrev pub IsOneToOne : (ℕ → ℕ) → Type 0
IsOneToOne f = (a b : ℕ) → f a ≡ f b → a ≡ b

-- the second one has what the first has, as far as a later event can read it
abbrev pub IsSameTask : Names → Task → Task → Type 0
IsSameTask n x y = live_part y ≡ named_task n (live_part x)

abbrev pub IsSameScope : Names → Scope → Scope → Type 0
IsSameScope n x y = plain_part y ≡ named_scope n (plain_part x)

-- each birth of the first state has one name in the second, and later births keep their numbers
pub record AreNamed (n : Names) (w v : World) : Type 0 where
  pub tasks_born : length v.tasks ≡ length w.tasks
  pub scopes_born : length v.scopes ≡ length w.scopes
  pub task_names : IsOneToOne n.tasks
  pub scope_names : IsOneToOne n.scopes
  pub later_tasks : (t : ℕ) → length w.tasks ≤ t → n.tasks t ≡ t
  pub later_scopes : (s : ℕ) → length w.scopes ≤ s → n.scopes s ≡ s
  pub root : n.tasks 0 ≡ 0

-- with these names, the second state has what the first has, as far as a later event can read it
pub record IsAlike (n : Names) (w v : World) : Type 0 where
  pub named : AreNamed n w v
  pub task : (t : ℕ) → IsSameTask n (task_at w t) (task_at v (n.tasks t))
  pub scope : (s : ℕ) → IsSameScope n (scope_at w s) (scope_at v (n.scopes s))
  pub task_sums : (q : Task → ℕ)
      → sum_by (λ x. q (live_part x)) v.tasks ≡ sum_by (λ x. q (named_task n (live_part x))) w.tasks
  pub scope_sums : (q : Scope → ℕ)
      → sum_by (λ x. q (plain_part x)) v.scopes
      ≡ sum_by (λ x. q (named_scope n (plain_part x))) w.scopes

-- both run and are alike, or both are the same fault of the same task
abbrev pub AreAlike : Names → State → State → Type 0
AreAlike n (Running w) (Running v) = IsAlike n w v
AreAlike n (Running w) (Faulted kind t f pc) = ⊥
AreAlike n (Faulted kind t f pc) y = y ≡ Faulted kind (n.tasks t) f pc

-- the same events lead from states that are alike to states that are alike
abbrev pub BirthsAreNames : Type 0
BirthsAreNames =
    (p : Program) → ReadsNothing p → (n : Names) (x y : State) (es : List Event)
    → AreAlike n x y
    → AreAlike n (fold (apply p) x es) (fold (apply p) y (map (named_event n) es))
