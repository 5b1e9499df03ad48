use Rattle.ends_plain.proofs.ListedLemmas.{ends_more}
use Rattle.look_ends.proofs.by_calls.add_end.Goals as goal

pub returns : goal.returns
returns c g all here = rw c.in_ok-push.ensures.items (ends_more g c.args.found.now.items c.args.one all here)
