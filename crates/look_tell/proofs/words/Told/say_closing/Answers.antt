use Rattle.std.proofs.lemmas.Result.{on_ok_weaker}
use Rattle.std.specs.Fmt.{decimal}
use Rattle.std.specs.Prelude.{codes}
use Rattle.look_tell.proofs.Parts.{after_number}
use Rattle.look_tell.proofs.words.Told.say_closing.Goals as goal

pub returns : goal.returns
returns c = on_ok_weaker c.say_cancels.result
    (λ h. after_number c.args.out.now.items (codes ", begins to close scope ") (decimal c.args.s) _ _ _ c.in_ok-say_numbered.ensures h)
    c.say_cancels.ensures
