use Rattle.std.proofs.Common.{◌∙◌}
use Rattle.ends_picks.proofs.BoundLemmas.{scope_fits}
use Rattle.ends_picks.proofs.possible.has_pick.Goals as goal

pub returns-else-may_fit : goal.returns-else-may_fit
returns-else-may_fit c pick fits = c.may_fit.ensures ∙ scope_fits c.args.seen.now pick fits
