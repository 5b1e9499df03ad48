-- Only the frame and the flag of a task change: all counters stay.
use Rattle.std.proofs.Common.{◌≡◌, ℕ, List, Bool, refl, ap, ◌∙◌}
use Rattle.sts_joiners.specs.Tallied.{Tallied}
use Rattle.sts_model.specs.declared.record.Frame.{Frame}
use Rattle.sts_model.specs.declared.record.Task.{Task}
use Rattle.sts_model.specs.World.{World, task_at, with_task}
use Rattle.sts_world.specs.Ends.{KnowsEnds}
use Rattle.sts_world.specs.Kept.{IsKept, Family}
use Rattle.sts_world.specs.Lines.{lines, line}
use Rattle.sts_world.proofs.Ends.{ends_task}
use Rattle.sts_world.proofs.Worlds.{kept_task}

pub stays : (w : World) (fs : List Family) (ts : List Tallied) (n m : ℕ) (bs : List Bool) (t : ℕ) (task x : Task) (frame : Frame) (flag : Bool) → x ≡ record task { frame = frame; flag = flag } → task ≡ task_at w t → IsKept (lines w) fs ts n m × KnowsEnds w bs → IsKept (lines (with_task w t x)) fs ts n m × KnowsEnds (with_task w t x) bs
stays w fs ts n m bs t task x frame flag e was k =
    let changed : x ≡ record (task_at w t) { frame = frame; flag = flag } = e ∙ ap (λ (y : Task). record y { frame = frame; flag = flag }) was in (
      kept_task w _ fs ts n m t x refl (ap line changed) k.0,
      ends_task w _ bs t x refl (ap (λ (y : Task). y.scope) changed) (ap (λ (y : Task). y.outcome) changed) k.1,
    )
