use Rattle.std.proofs.Common.{ℕ, List, ◌++◌, ◌∙◌, ap}
use Rattle.std.specs.Prelude.{codes}
use Rattle.std.proofs.lemmas.Result.{on_ok_weaker}
use Rattle.look_text.specs.Sentences.{wanted_sentence}
use Rattle.laws_words.proofs.AppendLemmas.{three_said}
use Rattle.look_text.proofs.wrong.say_wanted.Goals as goal

pub returns : goal.returns
returns c =
    let one : List ℕ = c.say.new.out.items in
    on_ok_weaker c.say-3.result
    (three_said (codes ": expected ") (wanted_sentence c.args.wanted) (codes "\n") c.args.out.now.items one c.say-2.new.out.items c.say-3.new.out.items
    c.in_ok-say.ensures (c.in_ok-say-2.ensures ∙ ap (λ (x : List ℕ). one ++ x) c.wanted_sentence.ensures)) c.say-3.ensures
