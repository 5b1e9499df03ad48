use Rattle.std.proofs.Common.{◌≡◌, ℕ, ◌<◌, ◌+◌, ◌∙◌, max, List, [], length, get_or, ap, arith}
use Rattle.sts_budget.proofs.Carried.{carried}
use Rattle.std.proofs.lemmas.List.{get_or_default}
use Rattle.sts_budget.proofs.together.carry.Goals as goal

pub returns : goal.returns
returns g c =
    let row = c.index.result.now in
    let within : c.args.pc < length c.args.rows.now.items = omega (arith, c.requires) in
    let is : row ≡ get_or c.args.rows.now.items c.args.pc [] =
    c.index.ensures ∙ get_or_default c.args.rows.now.items c.args.pc _ [] within in
    let old : c.index_mut.result.now ≡ get_or c.args.rows.now.items (c.args.pc + 1) [] =
    c.index_mut.ensures.value ∙ get_or_default c.args.rows.now.items (c.args.pc + 1) _ [] c.requires in
    carried g.row.N c.args.pc 0 c.args.rows.now.items row c.raise_all.new.row c.requires is (λ d lt.
    (let zero : get_or row d 0 ≡ get_or row d 0 + 0 = omega arith in
    c.raise_all.ensures d lt ∙ ap (λ (x : List ℕ). max (get_or x d 0) (get_or row d 0)) old ∙ ap
    (max (get_or (get_or c.args.rows.now.items (c.args.pc + 1) []) d 0)) zero))
