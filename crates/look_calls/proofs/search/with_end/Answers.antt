use Rattle.look_calls.proofs.WalkLemmas.{ends_more}
use Rattle.look_calls.proofs.search.with_end.Goals as goal

pub returns : goal.returns
returns c g all here = rw c.in_ok-push.ensures.items (ends_more g c.args.found.items c.args.one all here)
