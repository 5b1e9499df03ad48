use Rattle.ends_calls.proofs.ends.listed.Goals.{in-Some+in_ok-found-in-Some, in-None}
use Rattle.ends_calls.proofs.ends.listed.Goals as goal

pub loop-way-preserved : goal.loop-way-preserved
loop-way-preserved c =
    let g = c.args.setting.now in
    let invariant = c.loop-way.invariant in (
      elim c.match-next.branch [
        | in-Some+in_ok-found-in-Some w ↦ rw w.found-is
            (w.in_ok-found-in-Some.ensures g invariant.0 (rw w.in-Some.is (rw w.in-Some.is at c.in_ok-next.ensures.0)))
        | in-None w ↦ rw w.found-is invariant.0
      ],
      c.in_ok-next.ensures.1,
    )
