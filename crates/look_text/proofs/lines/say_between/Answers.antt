use Rattle.std.proofs.lemmas.Result.{on_ok_weaker}
use Rattle.laws_words.proofs.AppendLemmas.{three_said}
use Rattle.look_text.proofs.lines.say_between.Goals as goal

pub returns : goal.returns
returns c =
    on_ok_weaker c.say-2.result
    (three_said c.args.before.now c.args.bytes.now c.args.after.now c.args.out.now.items c.say.new.out.items
    c.extend_from_slice.new.self.items c.say-2.new.out.items c.in_ok-say.ensures c.in_ok-extend_from_slice.ensures.items) c.say-2.ensures
