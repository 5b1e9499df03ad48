-- A fork that is no misuse is into a scope that is open.
use Rattle.std.proofs.Common.{◌≡◌, ℕ, true, false, Option, refl}
use Rattle.sts_code.specs.Program.{Program}
use Rattle.sts_code.specs.declared.instr.Instr.TheVariants.{Fork}
use Rattle.sts_model.specs.declared.record.Frame.{Frame}
use Rattle.sts_model.specs.declared.record.Slot.{Slot}
use Rattle.sts_model.specs.declared.record.Slot.TheVariants.{Empty, Own, Lent, Sub}
use Rattle.sts_model.specs.Effect.{named}
use Rattle.sts_model.specs.Living.{is_closed}
use Rattle.sts_model.specs.Misuse.{IsFine, slot}
use Rattle.sts_model.specs.World.{World, scope_at}
use Rattle.sts_model.proofs.PhaseLemmas.{opened_not_closed}

pub forks_open : (p : Program) (w : World) (t : ℕ) (f : Frame) (x g : ℕ) (h : Option ℕ) → IsFine p w t f (Fork x g h) → is_closed (scope_at w (named (slot f x))).phase ≡ false
forks_open p w t f x g h fine = by_slot (slot f x) refl
  where
    by_slot : (o : Slot) → slot f x ≡ o → is_closed (scope_at w (named o)).phase ≡ false
    by_slot Empty e = let wrong : true ≡ false = rw e at fine.slots in cc
    by_slot (Own s) e = opened_not_closed (scope_at w s).phase (rw e at fine.legal)
    by_slot (Lent s) e = let wrong : true ≡ false = rw e at fine.own in cc
    by_slot (Sub s) e = let wrong : true ≡ false = rw e at fine.slots in cc
