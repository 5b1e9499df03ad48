use Rattle.std.proofs.lemmas.Result.{on_ok_weaker}
use Rattle.std.specs.Fmt.{decimal}
use Rattle.std.specs.Prelude.{codes}
use Rattle.look_end_lines.proofs.Parts.{alone_then, number_then}
use Rattle.look_end_lines.proofs.below.say_schedules.Goals as goal

pub returns : goal.returns
returns c = on_ok_weaker c.say.result
    (λ h. alone_then c.args.out.now.items (decimal c.args.schedules) _ _ _ c.in_ok-say_number.ensures
    (number_then c.say_number.new.out.items (codes " random schedules by seed ") (decimal c.args.seed) _ _ _ c.in_ok-say_number-2.ensures h))
    c.say.ensures
