use Rattle.std.proofs.Common.{◌++◌, List, ℤ, pos, drop, length, replicate, ap, ◌∙◌}
use Rattle.std.proofs.lemmas.List.{drop-replicate}
use Rattle.ends_table.proofs.beginning.first_locals.Goals as goal

pub returns : goal.returns
returns c =
    let args : List ℤ = c.args.args.now in
    let n = length args in
    ap (λ (l : List ℤ). l ++ drop n (replicate 16 (pos 0))) c.copy_from_slice.ensures.after
    ∙ ap (λ (z : List ℤ). args ++ z) (drop-replicate n 16 (pos 0))
