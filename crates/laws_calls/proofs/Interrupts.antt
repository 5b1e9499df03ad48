-- A task is interrupted: its state of the table stays.
use Rattle.std.proofs.Common.{◌≡◌, ℕ, Bool, true, false, refl, cond, arith}
use Rattle.sts_code.specs.Program.{Program}
use Rattle.sts_model.specs.World.{World, task_at, with_task}
use Rattle.sts_model.specs.Living.{lives}
use Rattle.sts_model.specs.Outside.{interrupt}
use Rattle.laws_runs.proofs.EventLemmas.{Next}
use Rattle.laws_runs.proofs.BirthLemmas.{born_alive}
use Rattle.laws_calls.specs.Outside.{Outside}
use Rattle.laws_calls.specs.Steps.{Row, Table}
use Rattle.laws_calls.specs.Covers.{Covers}
use Rattle.laws_calls.proofs.Turns.{Facts, FlagsHaveCause}
use Rattle.laws_calls.proofs.Moves.{covers_turned, turned_flag, turned_subs, fits_later}

pub interrupt_covered : (p : Program) (outside : Outside) (t : Table) (root : Row) (w : World) → Facts w → (u : ℕ) → Covers p outside t root w → Next w (interrupt w u) → FlagsHaveCause outside w (interrupt w u) → Covers p outside t root (interrupt w u)
interrupt_covered p outside t root w h u c n flags = by (lives (task_at w u)) refl n flags
  where
    by : (b : Bool) → lives (task_at w u) ≡ b
        → Next w (cond b (with_task w u (record (task_at w u) { flag = true })) w)
        → FlagsHaveCause outside w (cond b (with_task w u (record (task_at w u) { flag = true })) w)
        → Covers p outside t root (cond b (with_task w u (record (task_at w u) { flag = true })) w)
    by true alive n2 flags2 =
        let v : World = with_task w u (record (task_at w u) { flag = true }) in
        let turned = turned_flag w u (task_at w u).frame true (born_alive w u alive) in
        covers_turned p outside t root w v h n2 flags2 c u (task_at w u).frame 0 0 turned (λ wide. refl) alive
        (λ owed own k. record { own = own; less = omega arith; there = k.there; fits = fits_later w v h n2 c.rows (task_at w u).frame own (λ s. refl) (turned_subs turned) k.fits })
    by false alive n2 flags2 = c
