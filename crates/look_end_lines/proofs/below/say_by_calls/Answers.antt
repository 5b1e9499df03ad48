use Rattle.std.proofs.lemmas.Result.{on_ok_weaker}
use Rattle.std.specs.Fmt.{decimal}
use Rattle.std.specs.Prelude.{codes}
use Rattle.look_end_lines.proofs.Parts.{number_then}
use Rattle.look_end_lines.proofs.below.say_by_calls.Goals as goal

pub returns : goal.returns
returns c = rw c.in-Some.is (on_ok_weaker c.say.result
    (λ h. number_then c.args.out.now.items (codes "a search by calls of ") (decimal c.in-Some.states) _ _ _ c.in_ok-say_number.ensures h)
    c.say.ensures)
