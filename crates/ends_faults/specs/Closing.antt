-- A scope whose close has begun, and not ended, keeps its owner at the `close` (this project's own).
use Rattle.std.specs.Prelude.{◌≡◌, ℕ, Some}
use Rattle.sts_code.specs.Program.{Program}
use Rattle.sts_code.specs.declared.instr.Instr.TheVariants.{Close}
use Rattle.sts_model.specs.declared.event.Phase.TheVariants.{Closing}
use Rattle.sts_model.specs.declared.record.Slot.TheVariants.{Own}
use Rattle.sts_model.specs.World.{World, task_at, scope_at, instr_at}
use Rattle.sts_model.specs.Misuse.{slot}
use Rattle.laws_runs.specs.Runs.{Ever}

-- the owner's next instruction is the `close` of the scope
pub record IsAtClose (p : Program) (w : World) (s : ℕ) : Type 0 where
  pub x : ℕ
  pub at : instr_at p (task_at w (scope_at w s).owner).frame ≡ Some (Close x)
  pub holds : slot (task_at w (scope_at w s).owner).frame x ≡ Own s

abbrev pub ClosesAreWaitedFor : Program → World → Type 0
ClosesAreWaitedFor p w = (s : ℕ) → (scope_at w s).phase ≡ Closing → IsAtClose p w s

abbrev pub ClosingIsAtClose : Type 0
ClosingIsAtClose = Ever ClosesAreWaitedFor
