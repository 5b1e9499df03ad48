-- The parts that differ in two typestates, and their lines.
use Rattle.std.proofs.Common.{◌≡◌, ◌≢◌, ℕ, zero, suc, ◌+◌, ◌<◌, ◌≤◌, ◌⊎◌, inl, inr, List, [], ◌∷◌, ◌++◌, map, refl, sym, ap, ◌∙◌, append_assoc, arith}
use Rattle.std.specs.List.{flat_map, range_with_len}
use Rattle.std.proofs.lemmas.Bool.{cases_eq}
use Rattle.std.proofs.lemmas.Grind.{flat_map-append}
use Rattle.std.proofs.lemmas.List.{append-nil, ext_get_or}
use Rattle.std.proofs.lemmas.List.FromFn.{map-range_with_len_more}
use Rattle.sts_rules.specs.TypeState.{TypeState, kind}
use Rattle.sts_rules.specs.declared.typing.SlotKind.TheVariants.{Empty}
use Rattle.sts_code.specs.Program.{Program}
use Rattle.look_refusal.specs.declared.ways.Meeting.{Meeting}
use Rattle.look_refusal.specs.declared.parts.Part.{Part}
use Rattle.look_refusal.specs.declared.parts.Part.TheVariants.{Operands, Loops, Open, Slot}
use Rattle.look_refusal.specs.Ways.{Meets}
use Rattle.look_refusal.specs.Differences.{IsSamePart, Differing, none, same, differs, slots, all_parts, AreDifferences, part_line, SaysParts}
use Rattle.look_refusal.specs.Reading.{IsHeldIn}
use Rattle.look_refusal.proofs.FullLemmas.{IsFull, arrived_full}
use Rattle.look_refusal.proofs.Reading.{parts_apart}

-- ---- what is said

module _ (m : Meeting) (one other : List ℕ) where
  -- a part that is the same has no line
  pub same_said : (part : Part) (before : List ℕ) → IsSamePart part m.one.state m.other.state → SaysParts m one other (part ∷ []) before before
  same_said part before is = record { found = []; differ = same part is none; said = sym (append-nil before) }

  -- of one that differs its line
  pub line_said : (part : Part) (before after : List ℕ) → ¬ IsSamePart part m.one.state m.other.state → IsHeldIn part m.one.state × IsHeldIn part m.other.state → after ≡ before ++ part_line m one other part → SaysParts m one other (part ∷ []) before after
  line_said part before after unlike held e =
      record {
        found = part ∷ [];
        differ = differs part unlike (parts_apart part m.one.state m.other.state held.0 held.1 unlike) none;
        said = e ∙ ap (λ (xs : List ℕ). before ++ xs) (sym (append-nil (part_line m one other part)));
      }

  both_differing : (ps qs xs ys : List Part) → Differing m.one.state m.other.state ps xs → Differing m.one.state m.other.state qs ys → Differing m.one.state m.other.state (ps ++ qs) (xs ++ ys)
  both_differing ps qs xs ys none d = d
  both_differing ps qs xs ys (same part {parts = rest} is more) d = same part is (both_differing rest qs xs ys more d)
  both_differing ps qs xs ys (differs part {parts = rest} {found = left} unlike words more) d = differs part unlike words (both_differing rest qs left ys more d)

  -- of some parts, and then of more
  pub both_said : (ps qs : List Part) (before between after : List ℕ) → SaysParts m one other ps before between → SaysParts m one other qs between after → SaysParts m one other (ps ++ qs) before after
  both_said ps qs before between after a b =
      let line : Part → List ℕ = part_line m one other in
      record {
        found = a.found ++ b.found;
        differ = both_differing ps qs a.found b.found a.differ b.differ;
        said = b.said ∙ ap (λ (xs : List ℕ). xs ++ flat_map line b.found) a.said
            ∙ append_assoc before (flat_map line a.found) (flat_map line b.found)
            ∙ ap (λ (xs : List ℕ). before ++ xs) (sym (flat_map-append line a.found b.found));
      }

  -- one slot more
  pub slot_said : (x : ℕ) (before between after : List ℕ) → SaysParts m one other (slots x) before between → SaysParts m one other (Slot x ∷ []) between after → SaysParts m one other (slots (x + 1)) before after
  unfolding slots
  slot_said x before between after a b =
      let more : map Slot (range_with_len 0 (x + 1)) ≡ map Slot (range_with_len 0 x) ++ Slot x ∷ [] = map-range_with_len_more Slot 0 x x (omega arith) in
      rw more (both_said (map Slot (range_with_len 0 x)) (Slot x ∷ []) before between after a b)

  -- of no slot
  pub none_said : (before : List ℕ) → SaysParts m one other (slots 0) before before
  unfolding slots
  none_said before = record { found = []; differ = none; said = sym (append-nil before) }

  -- of all parts
  pub all_said : (before first second third after : List ℕ) → SaysParts m one other (Operands ∷ []) before first → SaysParts m one other (Loops ∷ []) first second → SaysParts m one other (Open ∷ []) second third → SaysParts m one other (slots 16) third after → SaysParts m one other all_parts before after
  unfolding all_parts
  all_said before first second third after a b d e =
      both_said (Operands ∷ []) (Loops ∷ Open ∷ slots 16) before first after a
      (both_said (Loops ∷ []) (Open ∷ slots 16) first second after b (both_said (Open ∷ []) (slots 16) second third after d e))

  -- written as a text of its own, and appended
  pub all_appended : (parts : List Part) (before start lines after : List ℕ) → start ≡ [] → SaysParts m one other parts start lines → after ≡ before ++ lines → SaysParts m one other parts before after
  all_appended parts before start lines after s h e =
      let said : List ℕ = flat_map (part_line m one other) h.found in
      record { found = h.found; differ = h.differ; said = e ∙ ap (λ (xs : List ℕ). before ++ xs) (h.said ∙ ap (λ (xs : List ℕ). xs ++ said) s) }

-- ---- that some part differs

module _ (a b : TypeState) where
  -- the two are the same in each of these parts
  abbrev AreSame : List Part → Type 0
  AreSame [] = Unit {0}
  AreSame (part ∷ parts) = IsSamePart part a b × AreSame parts

  none_differ : (parts found : List Part) → Differing a b parts found → found ≡ [] → AreSame parts
  none_differ parts found none e = tt
  none_differ parts found (same part {parts = rest} is more) e = (is, none_differ rest found more e)
  none_differ parts found (differs part unlike words more) e = absurd (cc)

  slot_same : (from count x : ℕ) → AreSame (map Slot (range_with_len from count)) → from ≤ x → x < from + count → kind a x ≡ kind b x
  slot_same from zero x h le lt = absurd (omega arith)
  slot_same from (suc count) x h le lt = by (cases_eq x from) (slot_same (from + 1) count x h.1)
    where
      by : (x ≡ from) ⊎ (x ≢ from) → (from + 1 ≤ x → x < from + 1 + count → kind a x ≡ kind b x) → kind a x ≡ kind b x
      by (inl e) more = ap (λ (y : ℕ). kind a y) e ∙ h.0 ∙ ap (λ (y : ℕ). kind b y) (sym e)
      by (inr ne) more = more (omega arith) (omega arith)

  same_state : a.height ≡ b.height → a.loops ≡ b.loops → a.entries ≡ b.entries → a.slots ≡ b.slots → a ≡ b
  same_state e f g h =
      let is : record { height = a.height; loops = a.loops; entries = a.entries; slots = a.slots } ≡ record { height = b.height; loops = b.loops; entries = b.entries; slots = b.slots } = rw (e, f, g, h) refl in is

  all_same : IsFull a → IsFull b → AreSame all_parts → a ≡ b
  unfolding all_parts slots
  all_same long also h =
      same_state h.0 h.1.0 h.1.1.0
      (ext_get_or Empty a.slots b.slots (long ∙ sym also) (λ x lt. slot_same 0 16 x h.1.1.1 (omega arith) (omega (arith, long))))

-- if two ways meet, at least one part differs
pub some_differ : (p : Program) (f pc : ℕ) (m : Meeting) (parts : List Part) → Meets p f pc m → Differing m.one.state m.other.state all_parts parts → AreDifferences m.one.state m.other.state parts
some_differ p f pc m parts meets each =
    let one : IsFull m.one.state = arrived_full p f m.at m.one.origin m.one.state meets.one in
    let other : IsFull m.other.state = arrived_full p f m.at m.other.origin m.other.state meets.other in
    record { each = each; some = λ e. meets.differ (all_same m.one.state m.other.state one other (none_differ m.one.state m.other.state all_parts parts each e)) }
