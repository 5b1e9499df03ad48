use Rattle.std.proofs.Common.{◌-◌, not, refl, sym, ◌∙◌, ap}
use Rattle.std.proofs.lemmas.Option.{same_Some}
use Rattle.sts_tree.specs.Forest.{subtask}
use Rattle.sts_tree.proofs.SeeingLemmas.{added_seen}
use Rattle.sts_tree.proofs.Keeping.{added_free, added_tree, fresh_step, unborn_waits}
use Rattle.sts_tree.proofs.tree.Tree.add_subtask.Goals as goal

pub settle_at-requires-clause-steps : goal.settle_at-requires-clause-steps
settle_at-requires-clause-steps g c =
    let x = c.scope_node-scope.result.now in
    fresh_step c.self.inside.forest c.add_subtask-t.new.self (not x.cancelled) c.args.s c.add_subtask-t.result
    c.add_subtask-t.new.self.task_keys (c.self.inside.forest.task_room - 1) c.add_subtask-t.ensures.added c.add_subtask-t.ensures.birth

pub settle_at-requires-clause-ready : goal.settle_at-requires-clause-ready
settle_at-requires-clause-ready g c =
    rw (c.add_subtask-t.ensures.added, c.add_subtask-t.ensures.birth) (sym (unborn_waits c.self.inside.forest c.self.invariant))

pub settle_waiting-requires : goal.settle_waiting-requires
settle_waiting-requires g c x is free =
    let n = c.scope_node-scope.result.now in
    added_free c.self.inside.forest c.add_subtask-t.new.self c.settle_at.new.forest c.add_subtask-t.new.self.task_keys
    (c.self.inside.forest.task_room - 1) c.add_subtask-t.result n.owner x (subtask c.args.s (not n.cancelled)) c.self.invariant
    c.add_subtask-t.ensures.added c.add_subtask-t.ensures.birth c.settle_at.ensures.seen c.settle_at.ensures.ready is free

pub invariant_of-self : goal.invariant_of-self
invariant_of-self g c =
    let x = c.scope_node-scope.result.now in
    added_tree c.self.inside.forest c.add_subtask-t.new.self c.settle_at.new.forest c.settle_waiting.new.forest
    c.add_subtask-t.new.self.task_keys c.args.s (c.self.inside.forest.task_room - 1) c.add_subtask-t.result x.owner x
    (subtask c.args.s (not x.cancelled)) c.self.invariant c.scope_node-scope.ensures refl refl c.add_subtask-t.ensures.added
    c.add_subtask-t.ensures.birth refl c.settle_at.ensures.seen c.settle_at.ensures.ready c.settle_waiting.ensures.seen
    c.settle_waiting.ensures.ready

pub returns-clause-lives : goal.returns-clause-lives
returns-clause-lives g c x is =
    let now = same_Some c.scope_node-scope.result.now x (sym c.scope_node-scope.ensures ∙ (rw (← c.self.view_is) at is)) in
    rw now refl

pub returns-clause-added : goal.returns-clause-added
returns-clause-added g c x is =
    let now = same_Some c.scope_node-scope.result.now x (sym c.scope_node-scope.ensures ∙ (rw (← c.self.view_is) at is)) in
    rw (← c.self.view_is, ← now)
    (added_seen c.self.inside.forest c.add_subtask-t.new.self c.settle_waiting.new.forest _ _
    (c.settle_waiting.ensures.seen ∙ c.settle_at.ensures.seen) c.add_subtask-t.ensures.added)

pub returns-clause-keys : goal.returns-clause-keys
returns-clause-keys g c =
    let keys = ap (λ h. h.task_keys) (c.settle_waiting.ensures.seen ∙ c.settle_at.ensures.seen) in
    let new = c.add_subtask-t.ensures.keys in
    (new.0, rw (← c.self.view_is) (keys ∙ new.1))
