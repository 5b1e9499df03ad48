-- Typestates: the verifier's knowledge of a task at an instruction (this project's own).
use Rattle.std.specs.Prelude.{ℕ, ◌+◌, List, [], ◌∷◌, length, Option, Some, None, ◌==◌}
use Rattle.std.specs.Prelude.{if◌then◌else◌, replicate, map, slice_index_or}
use Rattle.sts_code.specs.Program.{Program}
use Rattle.sts_rules.specs.declared.typing.SlotKind.{SlotKind}
use Rattle.sts_rules.specs.declared.typing.SlotKind.TheVariants.{Empty, Lent}
use Rattle.sts_rules.specs.declared.typing.TypedScope.{TypedScope}
use Rattle.sts_rules.specs.declared.typing.TypedEntry.{TypedEntry}
use Rattle.sts_rules.specs.declared.typing.TypedEntry.TheVariants.{Scope, Binding}
use Rattle.sts_rules.specs.declared.typing.TypedLoop.{TypedLoop}

-- the number of operands; the open loops and the structure list, the innermost first; the content
-- of each slot
pub record TypeState : Type 0 where
  pub height : ℕ
  pub loops : List TypedLoop
  pub entries : List TypedEntry
  pub slots : List SlotKind

-- the content of slot 0 at the beginning of a function: the scope that it was forked in; `main`,
-- the last function, has none
abbrev pub first_slot : Program → ℕ → SlotKind
first_slot p f = if f + 1 == length p.routines then Empty else Lent

-- the typestate at the beginning of a function
abbrev pub entry : Program → ℕ → TypeState
entry p f =
    record { height = 0; loops = []; entries = []; slots = first_slot p f ∷ replicate 15 Empty }

-- what a slot holds
abbrev pub kind : TypeState → ℕ → SlotKind
kind s x = slice_index_or s.slots x Empty

-- the innermost scope in this slot
abbrev pub scope_in : List TypedEntry → ℕ → Option TypedScope
scope_in [] x = None
scope_in (Binding k ∷ es) x = scope_in es x
scope_in (Scope r ∷ es) x = if r.slot == x then Some r else scope_in es x

-- the places of the `times` of these loops
abbrev pub heads : List TypedLoop → List ℕ
heads loops = map (λ l. l.at) loops
