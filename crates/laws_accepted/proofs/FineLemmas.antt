-- A task that is fine at its instruction misuses nothing.
use Rattle.std.proofs.Common.{◌≡◌, ℕ, None, ◌∙◌, ap}
use Rattle.sts_code.specs.Program.{Program}
use Rattle.sts_model.specs.World.{World, task_at}
use Rattle.sts_model.specs.Misuse.{misuse, fault_at}
use Rattle.laws_accepted.specs.Typed.{IsFineAt}
use Rattle.sts_model.proofs.FineLemmas.{fine_no_fault}

pub misuses_nothing : (p : Program) (w : World) (t : ℕ) → IsFineAt p w t → misuse p w t ≡ None
misuses_nothing p w t h = ap (fault_at p w t (task_at w t).frame) h.at ∙ fine_no_fault p w t (task_at w t).frame h.instr h.fine
