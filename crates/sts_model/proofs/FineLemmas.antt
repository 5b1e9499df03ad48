-- No fault applies: each test of a fault says no.
use Rattle.std.proofs.Common.{◌≡◌, ℕ, Some, None, refl}
use Rattle.std.proofs.lemmas.Bool.{or_parts}
use Rattle.sts_code.proofs.CheckedLemmas.{no_test}
use Rattle.sts_code.specs.Program.{Program}
use Rattle.sts_code.specs.declared.instr.Instr.{Instr}
use Rattle.sts_model.specs.declared.record.Frame.{Frame}
use Rattle.sts_model.specs.World.{World, task_at, instr_at}
use Rattle.sts_model.specs.Misuse.{IsFine, misuse, fault_of, misuses_operand, lacks_operands, overflows, breaks_loop, has_wrong_slot, misjoins, has_no_room, is_strangers, is_illegal, breaks_structure, is_unbound}

pub IsFine-from_fault : (p : Program) (w : World) (t : ℕ) (f : Frame) (i : Instr) → fault_of p w t f i ≡ None → IsFine p w t f i
IsFine-from_fault p w t f i e =
    let one = no_test (misuses_operand p w f i) _ _ e in
    let two = no_test (is_strangers f i) _ _ one.1 in
    let three = no_test (is_illegal p w f i) _ _ two.1 in
    let four = no_test (breaks_structure w f i) _ _ three.1 in
    let five = no_test (is_unbound w t i) _ _ four.1 in
    let rows = one.0 in
    let a = or_parts _ (has_no_room w f i) rows in
    let b = or_parts _ (misjoins w f i) a.0 in
    let c = or_parts _ (has_wrong_slot f i) b.0 in
    let d = or_parts _ (breaks_loop p f i) c.0 in
    let g = or_parts (lacks_operands p f i) (overflows p f i) d.0 in
    record {
      operands = g.0;
      room = g.1;
      loops = d.1;
      slots = c.1;
      joins = b.1;
      births = a.1;
      own = two.0;
      legal = three.0;
      structure = four.0;
      bound = five.0;
    }

-- if nothing is misused, the instruction that a task is at is fine
pub fine : (p : Program) (w : World) (t : ℕ) (i : Instr) → misuse p w t ≡ None → instr_at p (task_at w t).frame ≡ Some i → IsFine p w t (task_at w t).frame i
fine p w t i e at = IsFine-from_fault p w t (task_at w t).frame i (rw at at e)

-- an instruction that is fine has no fault
pub fine_no_fault : (p : Program) (w : World) (t : ℕ) (f : Frame) (i : Instr) → IsFine p w t f i → fault_of p w t f i ≡ None
fine_no_fault p w t f i h = rw (h.operands, h.room, h.loops, h.slots, h.joins, h.births, h.own, h.legal, h.structure, h.bound) refl
