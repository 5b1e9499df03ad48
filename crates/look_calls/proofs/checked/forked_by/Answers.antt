use Rattle.look_calls.proofs.WalkLemmas.{forks, walk_more}
use Rattle.look_calls.proofs.checked.forked_by.Goals as goal

pub returns-in-Some-2 : goal.returns-in-Some-2
returns-in-Some-2 c =
    let one = rw c.in-Some.is at c.in_ok-walk.ensures in
    let call = c.in-Some-2.call in
    record {
      walk = walk_more c.args.setting.now c.args.before c.in-Some.walk c.args.fork c.requires one;
      forked = forks c.args.setting.now c.args.before c.in-Some.walk c.args.fork c.args.task call.function call.arguments.items c.requires
          one (c.is_unborn.ensures c.if-not-is_unborn.false) (rw c.in-Some-2.is at c.in_ok-call_of.ensures);
    }
