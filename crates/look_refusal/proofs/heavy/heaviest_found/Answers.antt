use Rattle.std.proofs.Common.{inr}
use Rattle.look_refusal.proofs.Most.{wide_heavy}
use Rattle.look_refusal.proofs.heavy.heaviest_found.Goals as goal

pub returns-in-None : goal.returns-in-None
returns-in-None c = inr (wide_heavy c.args.search.now c.requires.ready c.requires.lie (rw c.in-None.is at (c.in_ok-trail.ensures {u = tt})))

pub returns : goal.returns
returns c = inr (wide_heavy c.args.search.now c.requires.ready c.requires.lie (rw c.in-None-2.is at (c.in_ok-top.ensures {u = tt})))
