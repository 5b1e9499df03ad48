use Rattle.std.proofs.Common.{List, sym, ◌∙◌, subst}
use Rattle.laws_calls.specs.Fitting.{ArePossible}
use Rattle.laws_calls.specs.declared.table.Seen.{Seen}
use Rattle.ends_picks.proofs.GroupLemmas.{possible_at}
use Rattle.ends_picks.proofs.possible.is_possible.Goals as goal

pub returns-then-not-has_pick : goal.returns-then-not-has_pick
returns-then-not-has_pick c possible =
    let all = subst (λ (xs : List Seen). ArePossible xs) (sym c.as_slice-seen-items.ensures) possible in
    let found = possible_at c.as_slice-seen-items.result.now c.loop-seen.seen-index c.seen-item.result all c.loop-seen-test.true c.seen-item.is in
    sym c.if-not-has_pick.true ∙ c.has_pick.ensures found.0 found.1
