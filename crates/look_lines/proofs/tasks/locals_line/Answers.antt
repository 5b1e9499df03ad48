use Rattle.std.proofs.Common.{ℤ, List, ◌++◌, get_or, pos, ap, ◌∙◌, rules, w64}
use mir.Val.{SFits}
use Rattle.std.specs.String.{string_bytes}
use Rattle.std.proofs.lemmas.Int.{to_z-of_z}
use Rattle.std.proofs.lemmas.List.{at_drop_more}
use Rattle.laws_words.proofs.AppendLemmas.{part_said}
use Rattle.look_lines.specs.Lines.{local_word, local_words}
use Rattle.look_lines.proofs.tasks.locals_line.Goals as goal

pub loop-x-preserved : goal.loop-x-preserved
loop-x-preserved g c =
    let names = g.N.Naming.names c.args.naming.now in
    let value = get_or c.args.locals.now c.loop-x.x (pos 0) in
    let fits : SFits w64 (get_or c.args.locals.now c.loop-x.x (pos 0)) = search rules in
    part_said (string_bytes c.loop-x.out) (string_bytes c.local_words.new.out) (local_word names c.loop-x.x value) _ _ _ c.loop-x.invariant
    (at_drop_more (λ (vs : List ℤ). local_words names vs c.loop-x.x) c.args.locals.now c.loop-x.x (pos 0) c.loop-x-test.true)
    (c.in_ok-local_words.ensures ∙ ap (λ (z : ℤ). string_bytes c.loop-x.out ++ local_word names c.loop-x.x z) (to_z-of_z w64 value fits))
