-- Instructions on a frame without births and slots.
use Rattle.std.proofs.Common.{◌≡◌, ℕ, zero, suc, ◌+◌, ◌-◌, List, [], ◌∷◌, Bool, true, false, Option, Some, None, refl, ap, cond, map, drop, set, replicate}
use Rattle.std.specs.Prelude.{filter_map, nat_le, ◌==◌, unwrap_or, pos}
use Rattle.std.specs.Int.{int_wrapping_div, w64}
use Rattle.std.specs.Ordering.{int_eq}
use Rattle.sts_code.specs.declared.instr.Instr.{Instr}
use Rattle.sts_code.specs.declared.instr.Instr.TheVariants.{Div, Times, Next}
use Rattle.sts_code.specs.Loops.{match_of}
use Rattle.sts_model.specs.declared.record.Bound.{Bound}
use Rattle.sts_model.specs.declared.record.Entry.{Entry}
use Rattle.sts_model.specs.declared.record.Entry.TheVariants as entry
use Rattle.sts_model.specs.declared.record.Frame.{Frame}
use Rattle.sts_model.specs.declared.record.Loop.{Loop}
use Rattle.sts_model.specs.declared.record.Slot.{Slot}
use Rattle.sts_model.specs.declared.record.Slot.TheVariants as slots
use Rattle.sts_model.specs.Effect.{with_slot}
use Rattle.sts_model.specs.Local.{emptied_slot, local, goes, steps, operand, turns, clipped}
use Rattle.sts_model.specs.Environment.{bound_of}
use Rattle.laws_calls.specs.Tasks.{bare, blank}

bare_cond : (b : Bool) (f g f2 g2 : Frame) → bare f ≡ f2 → bare g ≡ g2 → bare (cond b f g) ≡ cond b f2 g2
bare_cond true f g f2 g2 e d = e
bare_cond false f g f2 g2 e d = d

bare_turns : (f : Frame) (ls : List Loop) → bare (turns f ls) ≡ turns (bare f) ls
bare_turns f [] = refl
bare_turns f (l ∷ ls) =
    bare_cond (nat_le l.left 1) (record (steps f 0 []) { loops = ls }) (record f { pc = l.at + 1; loops = record l { left = l.left - 1 } ∷ ls })
    (record (steps (bare f) 0 []) { loops = ls }) (record (bare f) { pc = l.at + 1; loops = record l { left = l.left - 1 } ∷ ls }) refl refl

-- no slot changes if one is emptied where all are empty
set_empty : (n h : ℕ) → replicate n slots.Empty ≡ set (replicate n slots.Empty) h slots.Empty
set_empty zero h = refl
set_empty (suc n) zero = refl
set_empty (suc n) (suc h) = ap (λ (xs : List Slot). slots.Empty ∷ xs) (set_empty n h)

all_empty : (n : ℕ) (h : Option ℕ) → replicate n slots.Empty ≡ with_slot (replicate n slots.Empty) h slots.Empty
all_empty n None = refl
all_empty n (Some h) = set_empty n h

-- an instruction that stays in the frame does the same
pub bare_local : (is : List Instr) (i : Instr) (f : Frame) → bare (local is i f) ≡ local is i (bare f)
bare_local is (Div to) f =
    bare_cond (int_eq (operand f 0) (pos 0)) (goes f to 2 []) (steps f 2 (int_wrapping_div w64 (operand f 1) (operand f 0) ∷ []))
    (goes (bare f) to 2 []) (steps (bare f) 2 (int_wrapping_div w64 (operand f 1) (operand f 0) ∷ [])) refl refl
bare_local is (Times n) f =
    bare_cond (clipped n (operand f 0) == 0) (goes f (unwrap_or (match_of is f.pc) 0 + 1) 1 []) (record (steps f 1 []) { loops = record { at = f.pc; left = clipped n (operand f 0) } ∷ f.loops })
    (goes (bare f) (unwrap_or (match_of is f.pc) 0 + 1) 1 []) (record (steps (bare f) 1 []) { loops = record { at = f.pc; left = clipped n (operand f 0) } ∷ f.loops }) refl refl
bare_local is Next f = bare_turns f f.loops
bare_local is i f = ap (λ (xs : List Slot). record (bare (local is i f)) { slots = xs }) (all_empty 16 (emptied_slot i))

-- the bindings are the same without births
pub blank_bounds : (es : List Entry) → filter_map bound_of (map blank es) ≡ filter_map bound_of es
blank_bounds [] = refl
blank_bounds (entry.Scope s ∷ es) = blank_bounds es
blank_bounds (entry.Binding k v ∷ es) = ap (λ (bs : List Bound). record { key = k; value = v } ∷ bs) (blank_bounds es)

pub blank_drop : (es : List Entry) → map blank (drop 1 es) ≡ drop 1 (map blank es)
blank_drop [] = refl
blank_drop (e ∷ es) = refl
