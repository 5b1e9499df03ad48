-- A journal leads to one of all ends.
use Rattle.std.proofs.Common.{◌≡◌, refl, ap, ◌∙◌}
use Rattle.sts_model.specs.Run.{after}
use Rattle.sts_plain.specs.Seen.{ended_or_running, shown}
use Rattle.sts_plain.specs.declared.misstep.PlainState.TheVariants.{Ended}
use Rattle.ends_pool.specs.Reports.{ReportsAreEnds}

pub reports_are_ends : ReportsAreEnds
reports_are_ends p may_expire most ends all journal end report allowed =
    let comes : shown (after p journal) ≡ Ended end = ap shown report.runs ∙ ap ended_or_running report.ended in
    all journal (Ended end) (record { allowed = allowed; comes = comes; ends = refl })
