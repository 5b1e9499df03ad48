use Rattle.std.proofs.Common.{◌∙◌, ap}
use Rattle.std.specs.List.{list_any}
use Rattle.laws_calls.specs.declared.table.Part.{Part}
use Rattle.sts_repeats.proofs.RunLemmas.{list_any_runs}
use Rattle.ends_table.proofs.parts.has_open.Goals as goal

pub returns : goal.returns
returns c = c.has_open_run.ensures ∙ list_any_runs (λ (part : Part). part.is_open) c.runs.result.now ∙ ap
    (list_any (λ (part : Part). part.is_open)) c.runs.ensures
