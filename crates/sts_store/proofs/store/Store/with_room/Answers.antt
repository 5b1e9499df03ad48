use Rattle.std.proofs.Common.{None, ap}
use Rattle.sts_store.proofs.BeginningLemmas.{root_store}
use Rattle.sts_store.proofs.store.Store.with_room.Goals as goal

pub invariant_of-result : goal.invariant_of-result
invariant_of-result c =
    root_store c.args.frame c.requires.fresh
    (record { tree = c.in_ok-tree.tree; frames = c.in_ok-frames.frames; chains = c.in_ok-chains.chains; root_end = None })
    (ap (λ f. f.tasks) c.in_ok-tree.ensures.value)
    (ap (λ f. f.scopes) c.in_ok-tree.ensures.value)
    c.in_ok-frames.ensures.slots
