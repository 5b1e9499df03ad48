use Rattle.std.proofs.Common.{ℕ, Option, sym, subst}
use Rattle.std.specs.Prelude.{count_by}
use Rattle.laws_runs.specs.Tallies.{is_kind}
use Rattle.laws_calls.specs.Fitting.{Agrees}
use Rattle.ends_picks.proofs.GroupLemmas.{answer_agrees}
use Rattle.ends_picks.proofs.tallies.tally_range.Goals as goal

pub returns : goal.returns
returns c pick fits =
    let x = c.args.seen.now in
    let n = count_by (is_kind c.args.kind) pick in
    let agrees = subst (λ (a : Option ℕ). Agrees a n) (sym c.answer_of-answer.ensures) (answer_agrees x.asked c.args.kind pick fits.asked) in
    c.answered.ensures n agrees (c.of_kind-range.ensures pick fits)
