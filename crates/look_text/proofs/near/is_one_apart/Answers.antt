use Rattle.std.proofs.Common.{◌≡◌, ◌<◌, length, sym, ◌∙◌, arith}
use Rattle.std.proofs.lemmas.Grind.{common_steps}
use Rattle.look_text.proofs.NearLemmas.{one_apart_over}
use Rattle.look_text.proofs.near.is_one_apart.Goals as goal

pub returns-then-is_empty-2 : goal.returns-then-is_empty-2
returns-then-is_empty-2 c =
    let word = c.after_same.result.0.now in
    let known = c.after_same.result.1.now in
    let more : 0 < length word = grind (arith, common_steps, c.if-is_empty.false, c.if-is_empty.ensures, c.is_empty.ensures) in
    let over : length known ≡ 0 = grind (arith, common_steps, c.if-is_empty-2.true, c.if-is_empty-2.ensures, c.is_empty-else-is_empty.ensures) in
    sym (one_apart_over word known more over) ∙ c.after_same.ensures.apart
