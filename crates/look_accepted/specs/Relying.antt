-- The rules that JDK 25 doesn't share, and the instructions that rely on one (this project's own).
use Rattle.std.specs.Prelude.{◌≡◌, ℕ, ◌+◌, ◌==◌, List, [], ◌∷◌, length, Bool, false, Option, Some}
use Rattle.std.specs.Prelude.{None, nat_le, if◌then◌else◌}
use Rattle.std.specs.Option.{option_and_then}
use Rattle.sts_code.specs.Program.{Program, routine, instr_at}
use Rattle.sts_code.specs.declared.instr.Instr.{Instr}
use Rattle.sts_code.specs.declared.instr.Instr.TheVariants.{Fork, Join, Get, Except, Total}
use Rattle.sts_rules.specs.TypeState.{TypeState, kind, scope_in}
use Rattle.sts_rules.specs.declared.typing.SlotKind.{SlotKind}
use Rattle.sts_rules.specs.declared.typing.SlotKind.TheVariants.{Sub}
use Rattle.sts_rules.specs.declared.typing.TypedPhase.{TypedPhase}
use Rattle.sts_rules.specs.declared.typing.TypedPhase.TheVariants.{Attempted, Late}
use Rattle.sts_rules.specs.declared.typing.TypedScope.{TypedScope}
use Rattle.sts_rules.specs.declared.typing.TypedEntry.{TypedEntry}
use Rattle.sts_rules.specs.declared.typing.TypedEntry.TheVariants.{Scope, Binding}
use Rattle.look_accepted.specs.declared.reliance.Reliance.{Reliance}
use Rattle.look_accepted.specs.declared.reliance.Reliance.TheVariants.{SecondJoin, FirstBinding}
use Rattle.look_accepted.specs.declared.reliance.Reliance.TheVariants.{LateRead}
use Rattle.look_accepted.specs.Nodes.{Node, Comes}

-- ---- a `join` after an interrupted one

abbrev pub second_in : TypedPhase → Option Reliance
second_in Attempted = Some SecondJoin
second_in _ = None

-- JDK 25 lets `join` be called once, even if it was interrupted (API `join()`)
abbrev pub second_join : Option TypedScope → Option Reliance
second_join scope = option_and_then (λ (s : TypedScope). second_in s.phase) scope

-- ---- a read after a timeout

abbrev pub late_in : TypedPhase → Option Reliance
late_in Late = Some LateRead
late_in _ = None

-- JDK 25 gives the owner no value and no exception after a timeout, until it closes the scope (API
-- `Subtask.get()`, `Subtask.exception()`)
abbrev pub late_read : Option TypedScope → Option Reliance
late_read scope = option_and_then (λ (s : TypedScope). late_in s.phase) scope

abbrev pub late_subtask : TypeState → SlotKind → Option Reliance
late_subtask s (Sub x known) = late_read (scope_in s.entries x)
late_subtask s _ = None

-- ---- a `fork` behind the first binding of a thread

-- is the scope in this slot one of the `outer` outermost entries?
abbrev pub is_outer : ℕ → ℕ → List TypedEntry → Bool
is_outer x outer [] = false
is_outer x outer (Binding k ∷ es) = is_outer x outer es
is_outer x outer (Scope r ∷ es) =
    if r.slot == x then nat_le (length es + 1) outer else is_outer x outer es

-- JDK 25 throws at a `fork` in a scope that was open when the thread made its first binding, though
-- that binding has ended
abbrev pub first_binding : ℕ → TypeState → Option ℕ → Option Reliance
first_binding x s None = None
first_binding x s (Some outer) = if is_outer x outer s.entries then Some FirstBinding else None

-- ---- all of them

-- the rule that an instruction relies on
abbrev pub relied_on : Instr → TypeState → Option ℕ → Option Reliance
relied_on (Join x failed timeout interrupted) s mark = second_join (scope_in s.entries x)
relied_on (Fork x g h) s mark = first_binding x s mark
relied_on (Total x) s mark = late_read (scope_in s.entries x)
relied_on (Get h) s mark = late_subtask s (kind s h)
relied_on (Except h) s mark = late_subtask s (kind s h)
relied_on _ s mark = None

-- the rule that the instruction of a node relies on
abbrev pub relied_on_at : Program → ℕ → Node → Option Reliance
relied_on_at p f n = relied_on (instr_at (routine p f).code n.pc) n.state n.mark

-- the instruction at a place relies on the rule, in some node that a control path reaches
pub data Relies (p : Program) (f pc : ℕ) (r : Reliance) : Type 0 where
  relies : (n : Node) → Comes p f n → n.pc ≡ pc
      → relied_on (instr_at (routine p f).code pc) n.state n.mark ≡ Some r → Relies p f pc r
