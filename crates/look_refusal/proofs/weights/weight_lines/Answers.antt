use Rattle.std.proofs.Common.{ℕ, List, ◌++◌, ◌∙◌, ap}
use Rattle.std.proofs.lemmas.Result.{on_ok_weaker}
use Rattle.look_refusal.specs.Weights as def
use Rattle.laws_words.proofs.AppendLemmas.{two_parts}
use Rattle.look_refusal.proofs.weights.weight_lines.Goals as goal

pub returns : goal.returns
returns c =
    let o = c.args.outline.now in
    let f = c.args.function in
    let before = c.args.out.now.items in
    let same = c.as_slice-shares.ensures.value in
    let each = c.in_ok-say_shares.ensures ∙ ap (λ (x : List ℕ). c.say_weight.new.out.items ++ def.share_lines o f x) same in
    let rest = c.in_ok-say_others.ensures ∙ ap (λ (x : ℕ). c.say_shares.new.out.items ++ def.others_line x) (c.others.ensures ∙ ap def.others same) in
    let two = two_parts before (def.weight_line o f c.args.resource c.args.heavy.now) _ _ _ c.in_ok-say_weight.ensures each in
    let three = two_parts before _ _ _ _ two rest in
    on_ok_weaker c.say.result
    (λ h. two_parts before _ _ _ _ three (h ∙ ap (λ (x : List ℕ). c.say_others.new.out.items ++ x) c.own_line.ensures))
    c.say.ensures
