use Rattle.look_calls.proofs.WalkLemmas.{shows}
use Rattle.look_calls.proofs.checked.ended.Goals as goal

pub returns-in-Some-end_of : goal.returns-in-Some-end_of
returns-in-Some-end_of c =
    let ending = c.in-Some-end_of.ending in
    shows c.args.setting.now c.args.forked c.in-Some.last c.args.task ending.end ending.is_heard c.requires
    (rw c.in-Some.is at c.in_ok-last.ensures) c.in-Some-end_of.ensures
