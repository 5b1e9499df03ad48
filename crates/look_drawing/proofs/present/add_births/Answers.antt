use Rattle.std.proofs.Common.{ℕ, List, ◌+◌, ◌-◌, [], ◌∷◌, ◌++◌, ap, sym, ◌∙◌, append_assoc, arith}
use Rattle.std.specs.List.{range_with_len}
use Rattle.look_drawing.proofs.Ranges.{range-next}
use Rattle.look_drawing.proofs.present.add_births.Goals as goal

pub loop-birth-preserved : goal.loop-birth-preserved
loop-birth-preserved c =
    let l = c.loop-birth in
    let to = c.args.to in
    let rest : List ℕ = range_with_len (l.birth + 1) (to - (l.birth + 1)) in
    ap (λ (xs : List ℕ). xs ++ rest) c.in_ok-push.ensures.items
    ∙ append_assoc l.births.items (l.birth ∷ []) rest
    ∙ ap (λ (xs : List ℕ). l.births.items ++ xs) (sym (range-next l.birth to (omega arith)))
    ∙ l.invariant
