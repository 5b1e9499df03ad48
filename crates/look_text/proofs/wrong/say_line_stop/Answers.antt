use Rattle.std.proofs.lemmas.Result.{on_ok_weaker}
use Rattle.sts_asm.specs.Source.{names_at}
use Rattle.look_text.proofs.NameLineLemmas.{line_said}
use Rattle.look_text.proofs.wrong.say_line_stop.Goals as goal

pub returns : goal.returns
returns c =
    on_ok_weaker c.say_name_stop.result
    (line_said (names_at c.args.outline.now c.args.function) c.operand.result c.in-Some.first.now c.args.words c.word.new.self
    c.args.out.now.items c.say.new.out.items c.extend_from_slice.new.self.items c.say_name_stop.new.out.items
    c.in-Some.ensures c.operand.ensures c.in_ok-say.ensures c.in_ok-extend_from_slice.ensures.items) c.say_name_stop.ensures
