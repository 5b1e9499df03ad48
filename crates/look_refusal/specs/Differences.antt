-- The differences between two ways that meet, part by part (this project's own).
use Rattle.std.specs.Prelude.{◌≡◌, ◌≢◌, ℕ, List, [], ◌∷◌, ◌++◌, map, Bool, ◌==◌, ◌&&◌, ◌||◌, codes}
use Rattle.std.specs.Prelude.{Option, Some, None, is_some, if◌then◌else◌}
use Rattle.std.specs.List.{flat_map, range_with_len}
use Rattle.std.specs.Fmt.{decimal}
use Rattle.sts_code.specs.Program.{Program, routine, instr_at}
use Rattle.sts_code.specs.declared.instr.Instr.{Instr}
use Rattle.sts_code.specs.declared.instr.Instr.TheVariants.{Div, Jz, Times, Join, Case}
use Rattle.sts_rules.specs.TypeState.{TypeState, kind}
use Rattle.sts_rules.specs.declared.typing.Known.{Known}
use Rattle.sts_rules.specs.declared.typing.Known.TheVariants.{Unknown, Success, Failed}
use Rattle.sts_rules.specs.declared.typing.SlotKind.{SlotKind}
use Rattle.sts_rules.specs.declared.typing.SlotKind.TheVariants.{Empty, Own, Lent, Sub}
use Rattle.sts_rules.specs.declared.typing.TypedPhase.{TypedPhase}
use Rattle.sts_rules.specs.declared.typing.TypedPhase.TheVariants.{Opened, Attempted, Joined, Late}
use Rattle.sts_rules.specs.declared.typing.TypedEntry.{TypedEntry}
use Rattle.sts_rules.specs.declared.typing.TypedEntry.TheVariants.{Scope, Binding}
use Rattle.sts_rules.specs.declared.typing.TypedLoop.{TypedLoop}
use Rattle.sts_list.specs.Spelling.{after_spaces, joiner_words, timed_words}
use Rattle.sts_asm.specs.Outline.{Sentence, Outline}
use Rattle.sts_asm.specs.Source.{sentence_at}
use Rattle.look_refusal.specs.declared.differences.Compared.{Compared}
use Rattle.look_refusal.specs.declared.ways.Way.{Way}
use Rattle.look_refusal.specs.declared.ways.WayOrigin.{WayOrigin}
use Rattle.look_refusal.specs.declared.ways.WayOrigin.TheVariants.{Beginning, Edge, Turn}
use Rattle.look_refusal.specs.declared.ways.Meeting.{Meeting}
use Rattle.look_refusal.specs.declared.parts.Part.{Part}
use Rattle.look_refusal.specs.declared.parts.Part.TheVariants.{Operands, Loops, Open, Slot}

-- ---- the parts of a typestate in words, each after a space

-- what is known of the state of a subtask
abbrev pub known_word : Known → List ℕ
known_word Unknown = codes "unknown"
known_word Success = codes "success"
known_word Failed = codes "failed"

-- what is known of a slot
abbrev pub kind_words : SlotKind → List ℕ
kind_words Empty = codes " empty"
kind_words Own = codes " a scope"
kind_words Lent = codes " the scope it is in"
kind_words (Sub x known) = codes " " ++ known_word known ++ codes ", of s" ++ decimal x

abbrev pub phase_words : TypedPhase → List ℕ
phase_words Opened = codes " opened"
phase_words Attempted = codes " attempted"
phase_words Joined = codes " joined"
phase_words Late = codes " late"

-- ` (s0 awaitall timed joined)`, or ` (key 3)`
abbrev pub entry_words : TypedEntry → List ℕ
entry_words (Scope r) =
    codes " (s" ++ decimal r.slot ++ after_spaces (joiner_words r.joiner)
    ++ after_spaces (timed_words r.timed) ++ phase_words r.phase ++ codes ")"
entry_words (Binding k) = codes " (key " ++ decimal k ++ codes ")"

-- ` (times at 7, 2 open)`
abbrev pub loop_words : TypedLoop → List ℕ
loop_words l =
    codes " (times at " ++ decimal l.at ++ codes ", " ++ decimal l.entries ++ codes " open)"

-- the words of each, or that there is none
abbrev pub listed : {A : Type 0} → (A → List ℕ) → List A → List ℕ
listed words [] = codes " none"
listed words (x ∷ xs) = words x ++ flat_map words xs

abbrev pub part_words : Part → TypeState → List ℕ
part_words Operands s = codes " " ++ decimal s.height
part_words Loops s = listed loop_words s.loops
part_words Open s = listed entry_words s.entries
part_words (Slot x) s = kind_words (kind s x)

abbrev pub part_name : Part → List ℕ
part_name Operands = codes "operands"
part_name Loops = codes "open loops"
part_name Open = codes "open, the last one first"
part_name (Slot x) = codes "slot s" ++ decimal x

-- ---- the parts in which two typestates differ

-- the two are the same in this part
abbrev pub IsSamePart : Part → TypeState → TypeState → Type 0
IsSamePart Operands a b = a.height ≡ b.height
IsSamePart Loops a b = a.loops ≡ b.loops
IsSamePart Open a b = a.entries ≡ b.entries
IsSamePart (Slot x) a b = kind a x ≡ kind b x

-- the parts that differ among these, in order, and no others; their words differ too
pub data Differing (a b : TypeState) : List Part → List Part → Type 0 where
  none : Differing a b [] []
  same : (part : Part) {parts found : List Part} → IsSamePart part a b → Differing a b parts found
      → Differing a b (part ∷ parts) found
  differs : (part : Part) {parts found : List Part} → ¬ IsSamePart part a b
      → part_words part a ≢ part_words part b → Differing a b parts found
      → Differing a b (part ∷ parts) (part ∷ found)

-- the first `count` slots
unfoldable pub slots : ℕ → List Part
slots count = map Slot (range_with_len 0 count)

-- a typestate as a whole
unfoldable pub all_parts : List Part
all_parts = Operands ∷ Loops ∷ Open ∷ slots 16

-- the parts that differ; there is at least one
pub record AreDifferences (a b : TypeState) (parts : List Part) : Type 0 where
  pub each : Differing a b all_parts parts
  pub some : parts ≢ []

-- ---- the ways

-- which of the outcomes of `join` an edge is, by its number
abbrev pub outcome_words : Bool → Bool → ℕ → List ℕ
outcome_words failed timeout number =
    if number == 0 then codes " (ok)"
    else (if number == 1 && failed then codes " (failed)"
    else (if (number == 1 || (number == 2 && failed)) && timeout then codes " (timeout)"
    else codes " (interrupted)"))

-- which of the outcomes of `case`
abbrev pub case_words : ℕ → List ℕ
case_words number =
    if number == 0 then codes " (unavailable)"
    else (if number == 1 then codes " (success)" else codes " (failed)")

-- which edge of an instruction this is, if there are several
abbrev pub edge_words : Instr → ℕ → List ℕ
edge_words (Join x failed timeout interrupted) number =
    outcome_words (is_some failed) (is_some timeout) number
edge_words (Case h success failed) number = case_words number
edge_words (Jz to) number = if number == 0 then [] else codes " (jumps: it was 0)"
edge_words (Div to) number = if number == 0 then [] else codes " (by 0)"
edge_words (Times n) number = if number == 0 then [] else codes " (no turn)"
edge_words i number = []

-- `line 12`
abbrev pub place_name : Option Sentence → ℕ → List ℕ
place_name None pc = codes "place " ++ decimal pc
place_name (Some s) pc = codes "line " ++ decimal s.line

-- the line that a way comes from
abbrev pub origin_words : Outline → Program → ℕ → WayOrigin → List ℕ
origin_words o p f Beginning = codes "the beginning"
origin_words o p f (Edge pc number) =
    place_name (sentence_at o f pc) pc ++ edge_words (instr_at (routine p f).code pc) number
origin_words o p f (Turn pc) =
    codes "the turn that ends at " ++ place_name (sentence_at o f pc) pc

-- where it comes from, as the lines are written
abbrev pub way_words : Compared → Way → List ℕ
way_words t way = origin_words t.outline.now t.program.now t.function way.origin

-- ---- the lines

-- the words for one way's side of a difference
abbrev pub side : List ℕ → List ℕ → List ℕ
side words way = words ++ codes " on the way from " ++ way

-- `slot s1: success, of s0 on the way from line 12; failed, of s0 on the way from line 15`
abbrev pub difference : List ℕ → List ℕ → List ℕ → List ℕ → List ℕ → List ℕ
difference name a one b other =
    name ++ codes ":" ++ side a one ++ codes ";" ++ side b other ++ codes "\n"

-- the line of a part, with these names for the two ways
unfoldable pub part_line : Meeting → List ℕ → List ℕ → Part → List ℕ
part_line m one other part =
    difference (part_name part) (part_words part m.one.state) one (part_words part m.other.state)
    other

-- a line for each of these parts
abbrev pub part_lines : Meeting → List ℕ → List ℕ → List Part → List ℕ
part_lines m one other parts = flat_map (part_line m one other) parts

-- the ways go by the places that they come from
abbrev pub difference_lines : Outline → Program → ℕ → Meeting → List Part → List ℕ
difference_lines o p f m parts =
    part_lines m (origin_words o p f m.one.origin) (origin_words o p f m.other.origin) parts

-- the text so far, and then a line for each of these parts that differs in the typestates of the
-- two ways
pub record SaysParts (m : Meeting) (one other : List ℕ) (parts : List Part)
    (before after : List ℕ) : Type 0 where
  pub found : List Part
  pub differ : Differing m.one.state m.other.state parts found
  pub said : after ≡ before ++ part_lines m one other found

-- the text so far, and then a line for each part that differs
abbrev pub SaysDifferences : Outline → Program → ℕ → Meeting → List ℕ → List ℕ → Type 0
SaysDifferences o p f m before after =
    SaysParts m (origin_words o p f m.one.origin) (origin_words o p f m.other.origin) all_parts
    before after

-- the same, as the lines are written
abbrev pub Writes : Compared → List Part → List ℕ → List ℕ → Type 0
Writes t parts before after =
    SaysParts t.meeting.now (way_words t t.meeting.now.one) (way_words t t.meeting.now.other) parts
    before after
