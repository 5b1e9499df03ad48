use Rattle.std.proofs.Common.{Some, refl, add-one}
use Rattle.sts_tree.proofs.ClosedLemmas.{Removes, removed_none, removes_next}
use Rattle.sts_tree.proofs.Removing.{none_of}
use Rattle.sts_tree.proofs.forest.remove_all.Goals as goal

pub returns-in_default-clause-slots : goal.returns-in_default-clause-slots
returns-in_default-clause-slots c keys is size =
    let r = c.loop.invariant keys is size in
    let none = none_of c.loop.at (λ t e. c.in_default.not-Some t e) in
    (removed_none c.args.tasks.now.held c.loop.tasks.held keys c.loop.counter c.loop.at r none).slots

pub returns-in_default-clause-keys : goal.returns-in_default-clause-keys
returns-in_default-clause-keys c = let (keys, is, size) = c.requires in (c.loop.invariant keys is size).keys_stay

pub loop-preserved : goal.loop-preserved
loop-preserved c keys is size =
    let r : Removes c.args.tasks.now.held c.loop.tasks.held keys c.loop.counter (Some c.in-Some.t) =
    rw c.in-Some.is at (c.loop.invariant keys is size) in
    rw add-one (removes_next c.args.tasks.now.held c.loop.tasks.held c.discard.new.self keys c.loop.counter c.in-Some.t c.record.result.now
    _ r c.record.ensures c.discard.ensures.slots c.discard.ensures.keys c.discard.ensures.room refl)
