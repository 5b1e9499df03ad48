use Rattle.std.proofs.Common.{ℕ, List, Some}
use Rattle.std.proofs.lemmas.Result.{on_ok_weaker}
use Rattle.look_text.specs.Wrong.{bracketed, expected_words, meant_words}
use Rattle.laws_words.proofs.AppendLemmas.{three_said}
use Rattle.look_text.proofs.wrong.say_word.Goals as goal

pub returns : goal.returns
returns c =
    let word : List ℕ = c.args.word.now in
    on_ok_weaker c.say_guess.result
    (three_said (bracketed (Some word)) (expected_words c.args.wanted) (meant_words c.args.wanted (Some word)) c.args.out.now.items
    c.say_bracketed.new.out.items c.say_wanted.new.out.items c.say_guess.new.out.items
    c.in_ok-say_bracketed.ensures c.in_ok-say_wanted.ensures) c.say_guess.ensures
