use Rattle.std.proofs.Common.{ℤ, ◌++◌, get_or, pos, ap, ◌∙◌, rules, w64}
use mir.Val.{SFits}
use Rattle.std.specs.List.{flat_map}
use Rattle.std.specs.String.{string_bytes}
use Rattle.std.proofs.lemmas.Int.{to_z-of_z}
use Rattle.std.proofs.lemmas.List.{at_drop_more}
use Rattle.laws_words.proofs.AppendLemmas.{part_said}
use Rattle.look_lines.specs.Lines.{operand_words}
use Rattle.look_lines.proofs.tasks.operands_line.Goals as goal

pub loop-value-preserved : goal.loop-value-preserved
loop-value-preserved g c =
    let words = operand_words (g.N.Naming.names c.args.naming.now) in
    let value = get_or c.args.operands.now c.loop-value.value-index (pos 0) in
    let fits : SFits w64 (get_or c.args.operands.now c.loop-value.value-index (pos 0)) = search rules in
    part_said (string_bytes c.loop-value.out) (string_bytes c.operand_words.new.out) (words value) _ _ _ c.loop-value.invariant
    (at_drop_more (flat_map words) c.args.operands.now c.loop-value.value-index (pos 0) c.loop-value-test.true)
    (c.in_ok-operand_words.ensures ∙ ap (λ (z : ℤ). string_bytes c.loop-value.out ++ words z) (to_z-of_z w64 value fits))
