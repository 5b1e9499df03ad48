use Rattle.std.proofs.Common.{◌≡◌, ℕ, List, ◌++◌, false, ◌∙◌, ap, sym, arith, append_assoc}
use Rattle.std.specs.Prelude.{◌==◌, codes}
use Rattle.std.specs.Fmt.{decimal}
use Rattle.std.proofs.lemmas.Bool.{cond-false}
use Rattle.std.proofs.lemmas.Bool.Decides.{nat_tests}
use Rattle.std.proofs.lemmas.Result.{on_ok_weaker}
use Rattle.laws_words.proofs.AppendLemmas.{two_parts}
use Rattle.look_refusal.specs.Weights.{others_line}
use Rattle.look_refusal.proofs.weights.say_others.Goals as goal

some_others : (count : ℕ) → ¬ (count ≡ 0) → others_line count ≡ codes "other lines that add something, none of them more: " ++ decimal count ++ codes "\n"
some_others count some = let no : (count == 0) ≡ false = grind (arith, nat_tests) in cond-false _ _ _ no

pub returns : goal.returns
returns c =
    let before : List ℕ = c.args.out.now.items in
    let words : List ℕ = codes "other lines that add something, none of them more: " in
    let number : List ℕ = decimal c.args.count in
    let two : List ℕ = c.say_number.new.out.items in
    let three : List ℕ = c.say.new.out.items in
    on_ok_weaker c.say.result
    (λ (e : three ≡ two ++ codes "\n"). two_parts before (words ++ number) (codes "\n") two three
    (c.in_ok-say_number.ensures ∙ append_assoc before words number) e ∙ ap (λ (x : List ℕ). before ++ x)
    (sym (some_others c.args.count c.if-count-eq0.false))) c.say.ensures
