use Rattle.std.proofs.Common.{◌∙◌, ap}
use Rattle.std.specs.List.{list_all}
use Rattle.sts_repeats.proofs.RunLemmas.{list_all_runs}
use Rattle.ends_picks.specs.Bounds.{can_be}
use Rattle.ends_picks.proofs.counts.all_can_be.Goals as goal

pub returns : goal.returns
returns c = c.runs_can_be.ensures ∙ list_all_runs can_be c.runs.result.now ∙ ap (list_all can_be) c.runs.ensures
