use Rattle.std.proofs.Common.{ℕ, sym, subst}
use Rattle.std.specs.Prelude.{count_by}
use Rattle.sts_code.specs.declared.instr.Kind.{Kind}
use Rattle.sts_code.specs.declared.instr.Kind.TheVariants.{U}
use Rattle.laws_runs.specs.Tallies.{is_kind}
use Rattle.ends_picks.specs.Ranges.{IsIn}
use Rattle.ends_picks.proofs.GroupLemmas.{kind_group}
use Rattle.ends_picks.proofs.tallies.of_kind.Goals as goal

pub returns-in-U : goal.returns-in-U
returns-in-U c pick fits =
    let picks = fits.picks in
    let here = subst (λ (n : ℕ). IsIn c.range_of.result n) (kind_group c.args.seen.now.joiner U pick) (c.range_of.ensures pick picks) in
    subst (λ (k : Kind). IsIn c.range_of.result (count_by (is_kind k) pick)) (sym c.in-U.is) here
