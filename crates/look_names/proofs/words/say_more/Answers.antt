use Rattle.std.proofs.Common.{◌+◌, ◌++◌, get_or, codes, pos, refl, ap, ◌∙◌, append_assoc, rules, w64}
use mir.Val.{SFits}
use Rattle.std.proofs.lemmas.Int.{to_z-of_z}
use Rattle.laws_words.proofs.AppendLemmas.{item_said, items_said}
use Rattle.look_names.specs.Words.{value_words}
use Rattle.look_names.proofs.words.say_more.Goals as goal

pub loop-value-init : goal.loop-value-init
loop-value-init c = refl

pub loop-value-preserved : goal.loop-value-preserved
loop-value-preserved c =
    let text = c.args.names.now in
    let value = get_or c.args.values.now c.loop-value.value-index (pos 0) in
    let fits : SFits w64 (get_or c.args.values.now c.loop-value.value-index (pos 0)) = search rules in
    item_said (λ x. codes ", " ++ value_words c.args.names.now x) c.args.values.now c.loop-value.value-index (pos 0) _
    c.loop-value.out.items c.say_value.new.out.items c.loop-value-test.true c.loop-value.invariant
    (c.in_ok-say_value.ensures
    ∙ ap (λ z. c.say.new.out.items ++ value_words text z) (to_z-of_z w64 value fits)
    ∙ ap (λ l. l ++ value_words text value) c.in_ok-say.ensures
    ∙ append_assoc c.loop-value.out.items (codes ", ") (value_words text value))

pub returns : goal.returns
returns c = items_said (λ x. codes ", " ++ value_words c.args.names.now x) c.args.values.now c.loop-value.value-index _
    c.loop-value.out.items c.loop-value-test.false c.loop-value.invariant
