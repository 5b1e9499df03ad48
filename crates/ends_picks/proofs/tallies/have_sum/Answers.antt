use Rattle.std.proofs.Common.{◌≡◌, ℕ, ◌+◌, true, ◌∙◌, arith, subst}
use Rattle.ends_picks.specs.Ranges.{IsIn}
use Rattle.ends_picks.proofs.tallies.have_sum.Goals.{then-has_numbers, else-has_numbers, then-has_numbers-2, else-has_numbers-2}
use Rattle.ends_picks.proofs.tallies.have_sum.Goals as goal

pub returns-then-has_numbers-3 : goal.returns-then-has_numbers-3
returns-then-has_numbers-3 c x y z e a b k =
    let two = c.plus-two.ensures x y (omega (arith, e)) a b in
    let all = c.plus-all.ensures (x + y) z (omega (arith, e)) two k in
    c.has-has_sum.ensures (subst (λ (n : ℕ). IsIn c.plus-all.result n) e all)

pub returns-else-has_numbers-3 : goal.returns-else-has_numbers-3
returns-else-has_numbers-3 c x y z e a b k =
    let both : c.if-has_numbers.value ≡ true =
    elim c.if-has_numbers.branch [
      | then-has_numbers w ↦ w.value-is ∙ w.has_numbers-then-has_numbers.ensures y b
      | else-has_numbers w ↦ w.value-is ∙ c.has_numbers.ensures x a
    ] in
    elim c.if-has_numbers-2.branch [
      | then-has_numbers-2 w ↦ w.value-is ∙ w.has_numbers-then-has_numbers-2.ensures z k
      | else-has_numbers-2 w ↦ w.value-is ∙ both
    ]
