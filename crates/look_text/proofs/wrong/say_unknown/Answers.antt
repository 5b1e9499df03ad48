use Rattle.std.proofs.lemmas.Result.{on_ok_weaker}
use Rattle.look_text.proofs.NearNameLemmas.{unknown_said}
use Rattle.look_text.proofs.wrong.say_unknown.Goals as goal

pub returns-in_ok-say_line_stop-in-Some : goal.returns-in_ok-say_line_stop-in-Some
returns-in_ok-say_line_stop-in-Some c =
    on_ok_weaker c.say_near.result
    (unknown_said c.args.text.now c.args.outline.now c.in-Some.function c.in-Some.sentence.now c.words.result c.words-in-Some.result
    c.args.out.now.items c.say_line_stop.new.out.items c.say_near.new.out.items _
    c.in-Some.ensures c.words.ensures c.words-in-Some.ensures c.in_ok-say_line_stop-in-Some.ensures c.near_in_line.ensures) c.say_near.ensures
