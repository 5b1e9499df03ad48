use Rattle.std.proofs.Common.{◌++◌, ◌∙◌, ap₂}
use Rattle.std.proofs.lemmas.Result.{on_ok_weaker}
use Rattle.look_names.specs.Words.{place_words}
use Rattle.look_tell.specs.Outcome.{goes_words, shown_place}
use Rattle.laws_words.proofs.AppendLemmas.{two_parts}
use Rattle.look_tell.proofs.words.Told.say_goes.Goals as goal

pub returns : goal.returns
unfolding goes_words shown_place
returns c = on_ok_weaker c.say_place.result
    (λ h. two_parts c.args.out.now.items _ _ _ _ c.in_ok-say.ensures
    (h ∙ ap₂ (λ f pc. c.say.new.out.items ++ place_words c.args.self.names.now f pc) c.function_of.ensures c.pc_of.ensures))
    c.say_place.ensures
