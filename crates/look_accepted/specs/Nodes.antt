-- The places of a function's control paths, with the typestate there and what is known of the
-- thread's first binding (this project's own).
--
-- JDK 25 keeps with a scope the bindings of the thread that opened it. Before its first binding a
-- thread has none; after that binding has ended, it has an empty list. The JDK can't see that the
-- two are the same. So it matters which scopes were open when the thread made its first binding.
use Rattle.std.specs.Prelude.{◌≡◌, ℕ, List, length, Bool, Option, Some, None, Ok, nat_le}
use Rattle.std.specs.Prelude.{if◌then◌else◌}
use Rattle.std.specs.List.{list_any}
use Rattle.sts_code.specs.Program.{Program, routine, instr_at}
use Rattle.sts_code.specs.declared.instr.Instr.{Instr}
use Rattle.sts_code.specs.declared.instr.Instr.TheVariants.{Bind}
use Rattle.sts_rules.specs.Edges.{edges, back_of}
use Rattle.sts_rules.specs.Flow.{Leads}
use Rattle.sts_rules.specs.TypeState.{TypeState, entry}

-- ---- the first binding of a thread

-- does the function need a key?
abbrev pub needs_key : Program → ℕ → Bool
needs_key p f = list_any (λ (needed : Bool). needed) (routine p f).needs

-- if a thread needs a key, a binding was in force where it was forked, so none of its own is the
-- first
abbrev pub start_mark : Program → ℕ → Option ℕ
start_mark p f = if needs_key p f then Some 0 else None

-- a first binding sets the mark to the number of open entries
abbrev pub first_mark : Instr → ℕ → Option ℕ
first_mark (Bind k) entries = Some entries
first_mark _ entries = None

-- the mark after an instruction: the number of entries that were open when the thread made its
-- first binding and still are; none while it has made no binding
abbrev pub next_mark : Instr → TypeState → TypeState → Option ℕ → Option ℕ
next_mark i before after None = first_mark i (length before.entries)
next_mark i before after (Some outer) =
    if nat_le outer (length after.entries) then Some outer else Some (length after.entries)

-- ---- nodes

-- a place, with the typestate of a control path there, and with the mark
pub record Node : Type 0 where
  pub pc : ℕ
  pub state : TypeState
  pub mark : Option ℕ

-- the first node of a function
abbrev pub first_node : Program → ℕ → Node
first_node p f = record { pc = 0; state = entry p f; mark = start_mark p f }

-- along an edge of the instruction
abbrev pub node_along : Instr → Node → ℕ → TypeState → Node
node_along i n to s = record { pc = to; state = s; mark = next_mark i n.state s n.mark }

-- a control path of the function reaches the node
pub data Comes (p : Program) (f : ℕ) : Node → Type 0 where
  first : Comes p f (first_node p f)
  along : (n : Node) (out : List (ℕ × TypeState)) (to : ℕ) (s : TypeState) → Comes p f n
      → edges p f n.pc n.state ≡ Ok out → Leads out to s
      → Comes p f (node_along (instr_at (routine p f).code n.pc) n to s)
  -- at the end of a loop the next turn begins in the same typestate
  turn : (n : Node) (to : ℕ) → Comes p f n
      → back_of (instr_at (routine p f).code n.pc) n.state ≡ Some to
      → Comes p f (record n { pc = to })
