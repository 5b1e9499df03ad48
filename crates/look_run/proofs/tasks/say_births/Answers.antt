use Rattle.std.proofs.Common.{refl}
use Rattle.laws_words.proofs.AppendLemmas.{item_said, items_said}
use Rattle.look_run.specs.Lines.{subtask_word}
use Rattle.look_run.proofs.tasks.say_births.Goals as goal

pub loop-t-init : goal.loop-t-init
loop-t-init c = refl

pub loop-t-preserved : goal.loop-t-preserved
loop-t-preserved c = item_said (subtask_word c.args.records.now c.args.s) c.args.births.now c.loop-t.t-index 0 _ c.loop-t.out.items
    c.say_subtask.new.out.items c.loop-t-test.true c.loop-t.invariant c.in_ok-say_subtask.ensures

pub returns : goal.returns
returns c = items_said (subtask_word c.args.records.now c.args.s) c.args.births.now c.loop-t.t-index _ c.loop-t.out.items c.loop-t-test.false c.loop-t.invariant
