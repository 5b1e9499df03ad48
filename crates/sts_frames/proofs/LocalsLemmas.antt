-- What the last of some local instructions came from.
use Rattle.std.proofs.Common.{◌≡◌, List, Bool, true, false, Option, Some, None, refl, sym, cond, slice_get}
use Rattle.std.specs.Prelude.{option_map}
use Rattle.std.proofs.lemmas.Option.{same_Some}
use Rattle.sts_code.specs.declared.instr.Instr.{Instr}
use Rattle.sts_model.specs.declared.record.Frame.{Frame}
use Rattle.sts_model.specs.Local.{is_local, local}
use Rattle.sts_frames.specs.Locals.{if_local, and_local}

-- the last instruction, and the frame before it
pub record Last (is : List Instr) (o : Option Frame) (g : Frame) : Type 0 where
  pub frame : Frame
  pub instr : Instr
  pub before : o ≡ Some frame
  pub at : slice_get is frame.pc ≡ Some instr
  pub is_local : is_local instr ≡ true
  pub next : g ≡ local is instr frame

pub last : (is : List Instr) (o : Option Frame) (g : Frame) → and_local is o ≡ Some g → Last is o g
last is None g e = absurd (cc)
last is (Some f) g e = by (slice_get is f.pc) refl e
  where
    so : (i : Instr) (b : Bool) → slice_get is f.pc ≡ Some i → is_local i ≡ b → option_map (λ j. local is j f) (cond b (Some i) None) ≡ Some g → Last is (Some f) g
    so i true at l e = record { frame = f; instr = i; before = refl; at = at; is_local = l; next = sym (same_Some _ _ e) }
    so i false at l e = absurd (cc)

    by : (q : Option Instr) → slice_get is f.pc ≡ q → option_map (λ j. local is j f) (if_local q) ≡ Some g → Last is (Some f) g
    by None at e = absurd (cc)
    by (Some i) at e = so i (is_local i) at refl e
