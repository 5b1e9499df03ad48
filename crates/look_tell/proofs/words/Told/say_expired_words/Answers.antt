use Rattle.std.proofs.lemmas.Result.{on_ok_weaker}
use Rattle.laws_words.proofs.AppendLemmas.{two_parts}
use Rattle.look_tell.proofs.words.Told.say_expired_words.Goals as goal

pub returns : goal.returns
returns c = rw c.if-was_cancelled.false (on_ok_weaker c.say_interrupts.result
    (λ h. two_parts c.args.out.now.items _ _ _ _ c.in_ok-say.ensures h)
    c.say_interrupts.ensures)
