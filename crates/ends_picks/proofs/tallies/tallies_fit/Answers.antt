use Rattle.std.proofs.Common.{sym, ◌∙◌}
use Rattle.std.specs.Prelude.{count_by}
use Rattle.sts_code.specs.declared.instr.Kind.TheVariants.{S, F, U}
use Rattle.laws_runs.specs.Tallies.{is_kind}
use Rattle.laws_calls.specs.Tasks.{May}
use Rattle.laws_runs.proofs.TallyLemmas.{kinds}
use Rattle.laws_calls.proofs.FittingLemmas.{all_length}
use Rattle.ends_picks.proofs.tallies.tallies_fit.Goals as goal

pub returns : goal.returns
returns c pick fits =
    let long = sym (all_length May c.args.seen.now.parts pick fits.picks) ∙ sym c.len.ensures in
    c.have_sum.ensures (count_by (is_kind S) pick) (count_by (is_kind F) pick) (count_by (is_kind U) pick) (kinds pick ∙ long)
    (c.tally_range-successes.ensures pick fits) (c.tally_range-failures.ensures pick fits) (c.tally_range-unavailable.ensures pick fits)
