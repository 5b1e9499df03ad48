use Rattle.std.proofs.Common.{◌++◌, ◌∙◌, ap₂}
use Rattle.std.proofs.lemmas.Result.{on_ok_weaker}
use Rattle.laws_words.proofs.AppendLemmas.{two_parts}
use Rattle.look_names.specs.Words.{said_words}
use Rattle.look_tell.specs.Words.{place_words, shown_sentence}
use Rattle.look_tell.proofs.words.Told.say_place_of.Goals as goal

pub returns : goal.returns
unfolding place_words shown_sentence
returns c =
    let before = c.args.out.now.items in
    let lead = two_parts before _ _ _ _ c.in_ok-say_task.ensures c.in_ok-say.ensures in
    on_ok_weaker c.say_sentence.result
    (λ h. two_parts before _ _ _ _ lead
    (h ∙ ap₂ (λ f pc. c.say.new.out.items ++ said_words c.args.self.names.now f pc) c.function_of.ensures c.pc_of.ensures))
    c.say_sentence.ensures
