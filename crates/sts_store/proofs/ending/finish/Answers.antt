use Rattle.std.proofs.Common.{◌≡◌, Some, None, sym, ◌∙◌, ap, get_or}
use Rattle.std.proofs.lemmas.Option.{same_Some}
use Rattle.sts_env.specs.declared.env.Env.{Env}
use Rattle.sts_tree.specs.Forest.{Forest}
use Rattle.sts_tree.specs.declared.record.TaskNode.{TaskNode}
use Rattle.sts_cancel.proofs.RaisingLemmas.{cancel_seen}
use Rattle.sts_tree.specs.Ending.{ended}
use Rattle.sts_tree.specs.Steps.{seen}
use Rattle.sts_store.proofs.Finishing.{asking, told_scope}
use Rattle.sts_store.proofs.ending.finish.Goals as goal

pub node-requires : goal.node-requires
node-requires c none = let never : Some c.requires.0 ≡ None = sym c.requires.1 ∙ none in cc

pub cancel-requires : goal.cancel-requires
cancel-requires c none =
    let x = c.requires.0 in
    let is = c.requires.1 in
    let home = ap (λ (z : TaskNode). z.scope) (sym (same_Some c.node.result.now x (sym c.node.ensures.value ∙ is))) ∙ c.in-Some.is in
    let k = asking c.args.tree.now c.args.t x c.args.end c.in-Some.s home (sym (c.end_task-asks.ensures.asks x is) ∙ c.if-asks.true) in
    let there : get_or c.end_task-asks.new.self.scopes c.in-Some.s None ≡ Some (told_scope k.scope c.args.end) =
    ap (λ (h : Forest Env). get_or h.scopes c.in-Some.s None) (c.end_task-asks.ensures.ended x is) ∙ k.now in
    let never : Some (told_scope k.scope c.args.end) ≡ None = sym there ∙ none in
    cc

pub returns-in-Some-clause-finished : goal.returns-in-Some-clause-finished
returns-in-Some-clause-finished c x is =
    let s = c.in-Some.s in
    let home = ap (λ (z : TaskNode). z.scope) (sym (same_Some c.node.result.now x (sym c.node.ensures.value ∙ is))) ∙ c.in-Some.is in
    let k = asking c.args.tree.now c.args.t x c.args.end s home (sym (c.end_task-asks.ensures.asks x is) ∙ c.if-asks.true) in
    let mid = c.end_task-asks.ensures.ended x is in
    let there : get_or c.end_task-asks.new.self.scopes s None ≡ Some (told_scope k.scope c.args.end) =
    ap (λ (h : Forest Env). get_or h.scopes s None) mid ∙ k.now in
    c.cancel.ensures (told_scope k.scope c.args.end) there
    ∙ cancel_seen c.end_task-asks.new.self (ended c.args.tree.now c.args.t x c.args.end) s (told_scope k.scope c.args.end) mid
    ∙ ap seen (sym k.word)
