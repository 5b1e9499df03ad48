use Rattle.ends_plain.proofs.sample.sample_ends.Goals.{in-Some+in_ok-add-in-Some, in-None}
use Rattle.ends_plain.proofs.sample.sample_ends.Goals as goal

pub loop-number-preserved : goal.loop-number-preserved
loop-number-preserved c =
    let g = c.args.setting.now in
    elim c.match-branch-3.branch [
      | in-Some+in_ok-add-in-Some w ↦ rw w.so_far-is (w.in_ok-add-in-Some.ensures g c.loop-number.invariant (rw w.in-Some.is at c.in_ok-one.ensures))
      | in-None w ↦ rw w.so_far-is c.loop-number.invariant
    ]
