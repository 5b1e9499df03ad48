use Rattle.std.proofs.Common.{None, sym}
use Rattle.sts_links.proofs.ChainLemmas.{without_link}
use Rattle.sts_tree.specs.Forest.{ready_of}
use Rattle.sts_tree.specs.Stored.{link_at}
use Rattle.sts_tree.proofs.HoldingLemmas.{no_link}
use Rattle.sts_tree.proofs.KeyLemmas.{not_has}
use Rattle.sts_tree.proofs.Stores.{task_at}
use Rattle.sts_tree.proofs.forest.Forest.is_ready.Goals as goal

pub returns-in-None-clause-value : goal.returns-in-None-clause-value
returns-in-None-clause-value g c =
    let slots = c.self.inside.tasks.held.slots in
    let out = without_link (link_at slots 2) c.args.t None (ready_of slots c.self.inside.ready) None
    (no_link slots 2 c.args.t (sym c.in-None.ensures)) c.self.invariant.is_ready.linked in
    rw (← c.self.view_is) (sym (not_has c.args.t _ out))

pub returns-in-Some-clause-value : goal.returns-in-Some-clause-value
returns-in-Some-clause-value g c = rw (← c.self.view_is) (c.self.invariant.flags c.args.t c.in-Some.r.now.task
    (task_at c.self.inside.tasks.held.slots c.args.t c.in-Some.r.now (sym c.in-Some.ensures)))

pub returns-in-Some-clause-stands : goal.returns-in-Some-clause-stands
returns-in-Some-clause-stands g c _ n =
    let at = task_at c.self.inside.tasks.held.slots c.args.t c.in-Some.r.now (sym c.in-Some.ensures) in
    let none = rw (← c.self.view_is) at n in
    cc
