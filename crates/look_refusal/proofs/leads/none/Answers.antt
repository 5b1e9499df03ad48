use Rattle.std.proofs.Common.{[], ◌∷◌, ◌++◌, ap, ◌∙◌, arith}
use Rattle.laws_words.proofs.AppendLemmas.{one_more, all_there}
use Rattle.look_refusal.proofs.leads.none.Goals as goal

pub loop-init : goal.loop-init
loop-init c = c.in_ok-lists.ensures.items

pub loop-preserved : goal.loop-preserved
loop-preserved c = one_more [] c.loop.counter c.loop.lists.items c.push.new.self.items c.loop.invariant
    (c.in_ok-push.ensures.items ∙ ap (λ x. c.loop.lists.items ++ x ∷ []) c.new.ensures)

pub returns : goal.returns
returns c = all_there [] c.args.count c.loop.counter c.loop.lists.items (omega (arith, c.loop-test.false, c.loop.auto.counter-end)) c.loop.invariant
