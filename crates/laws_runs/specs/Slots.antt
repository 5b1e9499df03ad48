-- The scopes and subtasks that slots name, in every state of every run (this project's own).
use Rattle.std.specs.Prelude.{◌≡◌, ℕ, true, Some}
use Rattle.sts_model.specs.declared.record.Slot.TheVariants.{Own, Lent, Sub}
use Rattle.sts_model.specs.World.{World, task_at}
use Rattle.sts_model.specs.Living.{lives}
use Rattle.sts_model.specs.Standing.{stands_in}
use Rattle.sts_model.specs.Misuse.{slot}
use Rattle.laws_runs.specs.Runs.{Ever}

-- each scope and subtask that a slot of a living task names still counts; a lent scope is the
-- task's own scope
pub record NamesStanding (w : World) (t x : ℕ) : Type 0 where
  pub own : (s : ℕ) → slot (task_at w t).frame x ≡ Own s → stands_in w (Some s) ≡ true
  pub lent : (s : ℕ) → slot (task_at w t).frame x ≡ Lent s
      → (stands_in w (Some s) ≡ true) × ((task_at w t).scope ≡ Some s)
  pub sub : (u : ℕ) → slot (task_at w t).frame x ≡ Sub u → stands_in w (task_at w u).scope ≡ true

abbrev pub SlotsStand : Type 0
SlotsStand = Ever (λ p w. (t x : ℕ) → lives (task_at w t) ≡ true → NamesStanding w t x)
