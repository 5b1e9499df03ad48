-- A task that is at a `join` misuses nothing.
use Rattle.std.proofs.Common.{◌≡◌, ℕ, Bool, true, false, Option, Some, None, cond, refl}
use Rattle.sts_code.specs.Program.{Program}
use Rattle.sts_code.specs.declared.instr.Instr.{Instr}
use Rattle.sts_code.specs.declared.instr.Instr.TheVariants.{Join, Close}
use Rattle.sts_model.specs.declared.event.Fault.{Fault}
use Rattle.sts_model.specs.declared.event.Stand.TheVariants.{Free, AtJoin, AtClose}
use Rattle.sts_model.specs.declared.record.Slot.{Slot}
use Rattle.sts_model.specs.declared.record.Slot.TheVariants.{Own}
use Rattle.sts_model.specs.Misuse.{slot, misuse}
use Rattle.sts_model.specs.Waiting.{stands_at_join, stands_at_close, stand_at_instr, stand_at, is_closing}
use Rattle.sts_model.specs.World.{World, task_at, scope_at, instr_at}

no_fault : (m : Option Fault) (x : Slot) (s : ℕ) → stands_at_join m x ≡ AtJoin s → m ≡ None
no_fault None x s e = refl
no_fault (Some k) x s e = cc

not_at_close : (w : World) (x : Slot) (s : ℕ) → stands_at_close w x ≡ AtJoin s → ⊥
not_at_close w (Own r) s e = by (is_closing (scope_at w r).phase) e
  where
    by : (b : Bool) → cond b (AtClose r) Free ≡ AtJoin s → ⊥
    by true h = cc
    by false h = cc
not_at_close w x s e = cc

pub joins_well : (p : Program) (w : World) (t s : ℕ) → stand_at p w t ≡ AtJoin s → misuse p w t ≡ None
joins_well p w t s e = by (instr_at p (task_at w t).frame) e
  where
    by : (o : Option Instr) → stand_at_instr p w t o ≡ AtJoin s → misuse p w t ≡ None
    by None h = cc
    by (Some (Join x failed timeout interrupted)) h = no_fault (misuse p w t) (slot (task_at w t).frame x) s h
    by (Some (Close x)) h = absurd (not_at_close w (slot (task_at w t).frame x) s h)
    by (Some i) h = cc
