use Rattle.std.proofs.Common.{◌∙◌, ap}
use Rattle.sts_repeats.specs.Spread.{spread}
use Rattle.sts_repeats.proofs.RunLemmas.{spread_push}
use Rattle.sts_repeats.proofs.runs.push_run.Goals as goal

pub returns-in_ok-push-in-None : goal.returns-in_ok-push-in-None
returns-in_ok-push-in-None g c =
    ap spread c.in_ok-push-in-None.ensures.items ∙ spread_push c.args.runs.now.items (record { value = c.args.value; more = c.args.more })
