-- The points of a function: its nodes without the typestates, since its typing has one at each place.
-- A search finds them all, and the rules that they rely on (this project's own).
use Rattle.std.specs.Prelude.{◌≡◌, ℕ, ◌+◌, ◌<◌, ◌⊎◌, List, ◌++◌, length, Option, Some, None}
use Rattle.std.specs.Prelude.{option_map, slice_index_or, slice_set}
use Rattle.std.specs.List.{All, Contains}
use Rattle.sts_code.specs.Checks.{program_fault}
use Rattle.sts_code.specs.Facts.{targets}
use Rattle.sts_code.specs.Program.{Program}
use Rattle.sts_code.specs.declared.instr.Instr.{Instr}
use Rattle.sts_code.specs.declared.instr.Instr.TheVariants.{Times, Next}
use Rattle.sts_code.specs.declared.limits.TheConstants.{MAX_INSTRUCTIONS}
use Rattle.sts_rules.specs.Around.{next_place}
use Rattle.sts_rules.specs.ControlPaths.{Among}
use Rattle.sts_rules.specs.Refusal.{IsAccepted}
use Rattle.sts_rules.specs.TypeState.{TypeState}
use Rattle.sts_types.specs.Arrivals.{none}
use Rattle.sts_types.specs.Typing.{Typing, IsTyping}
use Rattle.look_accepted.specs.declared.point.Point.{Point}
use Rattle.look_accepted.specs.declared.reliance.Reliance.{Reliance}
use Rattle.look_accepted.specs.Nodes.{Node, start_mark, next_mark}

-- the typestate at a place
abbrev pub state_at : Typing → ℕ → TypeState
state_at t pc = slice_index_or t.states pc none

-- the node at a point
abbrev pub node_at : Typing → Point → Node
node_at t x = record { pc = x.pc; state = state_at t x.pc; mark = x.mark }

-- the first point of a function
abbrev pub first_point : Program → ℕ → Point
first_point p f = record { pc = 0; mark = start_mark p f }

-- to a place that the instruction leads to
abbrev pub along : Typing → Instr → Point → ℕ → Point
along t i x to =
    record { pc = to; mark = next_mark i (state_at t x.pc) (state_at t to) x.mark }

-- to one of these places
abbrev pub IsAlong : Typing → Instr → Point → List ℕ → Point → Type 0
IsAlong t i x places y = (to : ℕ) × (Among places to × (y ≡ along t i x to))

-- past a loop that makes no turn, or to the beginning of the next turn
abbrev pub loop_point : Typing → Point → Instr → Option Point
loop_point t x (Times n) =
    option_map (λ (end : ℕ). along t (Times n) x (end + 1)) (slice_index_or t.loops.ends x.pc None)
loop_point t x Next =
    option_map (λ (at : ℕ). record x { pc = at + 1 }) (slice_index_or t.loops.heads x.pc None)
loop_point t x _ = None

-- y follows x, which is at this instruction
abbrev pub Follows : Typing → Instr → Point → Point → Type 0
Follows t i x y =
    IsAlong t i x (targets i ++ next_place x.pc i) y ⊎ (loop_point t x i ≡ Some y)

-- the point, which is at this instruction, is inside the function, and so are those that follow it
pub record IsInside (t : Typing) (i : Instr) (x : Point) : Type 0 where
  pub short : x.pc < MAX_INSTRUCTIONS
  pub here : x.pc < length t.states
  pub ends : x.pc < length t.loops.ends
  pub heads : x.pc < length t.loops.heads
  pub places : All (λ to. to < length t.states) (targets i ++ next_place x.pc i)
  pub past : (n end : ℕ) → i ≡ Times n → Some end ≡ slice_index_or t.loops.ends x.pc None
      → end + 1 < length t.states

-- ---- a search

-- a function of an accepted program, with its typing
pub record IsTyped (p : Program) (f : ℕ) (t : Typing) : Type 0 where
  pub checked : program_fault p.routines ≡ None
  pub accepted : IsAccepted p
  pub in_program : f < length p.routines
  pub typing : IsTyping p f t

-- the older ones are the first ones
pub record Grows (old new : List Point) : Type 0 where
  pub more : List Point
  pub same : new ≡ old ++ more

-- all points of this kind are there, and nothing else is new
pub record Adds (old : List Point) (IsNew : Point → Type 0) (new : List Point) : Type 0 where
  pub grows : Grows old new
  pub there : (x : Point) → IsNew x → Contains new x
  pub only : (x : Point) → Contains new x → Contains old x ⊎ IsNew x

-- the rules by place, after this one was noted for a place, if it is one
abbrev pub noted : List (Option Reliance) → ℕ → Option Reliance → List (Option Reliance)
noted rules pc None = rules
noted rules pc (Some r) = slice_set rules pc (Some r)
