use Rattle.std.proofs.lemmas.Result.{on_ok_weaker}
use Rattle.look_tell.specs.Outcome.{cancels_words}
use Rattle.laws_words.proofs.AppendLemmas.{two_parts}
use Rattle.look_tell.proofs.words.Told.say_cancels.Goals as goal

pub returns : goal.returns
unfolding cancels_words
returns c = rw c.if-not-cancels.false (on_ok_weaker c.say_interrupts.result
    (λ h. two_parts c.args.out.now.items _ _ _ _ c.in_ok-say.ensures h)
    c.say_interrupts.ensures)
