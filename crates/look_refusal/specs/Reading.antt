-- Different typestates have different words for their parts (this project's own).
use Rattle.std.specs.Prelude.{◌≢◌, ◌<◌, ◌^◌, ⊤}
use Rattle.std.specs.List.{AllByRecursion}
use Rattle.sts_code.specs.declared.instr.Joiner.{Joiner}
use Rattle.sts_code.specs.declared.instr.Joiner.TheVariants.{Until}
use Rattle.sts_code.specs.declared.instr.Pred.{Pred}
use Rattle.sts_code.specs.declared.instr.Pred.TheVariants.{Failed, Success, AtLeast}
use Rattle.sts_rules.specs.TypeState.{TypeState, kind}
use Rattle.sts_rules.specs.declared.typing.SlotKind.{SlotKind}
use Rattle.sts_rules.specs.declared.typing.SlotKind.TheVariants.{Sub}
use Rattle.sts_rules.specs.declared.typing.TypedEntry.{TypedEntry}
use Rattle.sts_rules.specs.declared.typing.TypedEntry.TheVariants.{Scope, Binding}
use Rattle.sts_rules.specs.declared.typing.TypedLoop.{TypedLoop}
use Rattle.sts_list.specs.RoundTrip.{IsValue}
use Rattle.look_refusal.specs.declared.parts.Part.{Part}
use Rattle.look_refusal.specs.declared.parts.Part.TheVariants.{Operands, Loops, Open, Slot}
use Rattle.look_refusal.specs.Differences.{IsSamePart, part_words}

-- ---- the numbers are of 64 bits, as all are that the code holds

abbrev pub IsHeldCondition : Pred → Type 0
IsHeldCondition (Failed n) = n < 2 ^ 64
IsHeldCondition (Success n) = n < 2 ^ 64
IsHeldCondition (AtLeast v) = IsValue v

abbrev pub IsHeldJoiner : Joiner → Type 0
IsHeldJoiner (Until condition) = IsHeldCondition condition
IsHeldJoiner joiner = ⊤

abbrev pub IsHeldEntry : TypedEntry → Type 0
IsHeldEntry (Scope r) = (r.slot < 2 ^ 64) × IsHeldJoiner r.joiner
IsHeldEntry (Binding k) = k < 2 ^ 64

abbrev pub IsHeldLoop : TypedLoop → Type 0
IsHeldLoop l = (l.at < 2 ^ 64) × (l.entries < 2 ^ 64)

abbrev pub IsHeldKind : SlotKind → Type 0
IsHeldKind (Sub x known) = x < 2 ^ 64
IsHeldKind slot = ⊤

-- those of this part of the typestate
abbrev pub IsHeldIn : Part → TypeState → Type 0
IsHeldIn Operands s = s.height < 2 ^ 64
IsHeldIn Loops s = AllByRecursion IsHeldLoop s.loops
IsHeldIn Open s = AllByRecursion IsHeldEntry s.entries
IsHeldIn (Slot x) s = IsHeldKind (kind s x)

-- If two typestates differ in a part, so do the words for it. Their numbers must have 64 bits: only
-- the last 64 digits of a number would be written.
abbrev pub PartsReadApart : Type 0
PartsReadApart =
    (part : Part) (a b : TypeState) → IsHeldIn part a → IsHeldIn part b → ¬ IsSamePart part a b
    → part_words part a ≢ part_words part b
