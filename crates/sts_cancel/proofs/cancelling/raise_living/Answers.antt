use Rattle.std.proofs.Common.{suc, sym, ◌∙◌, take, drop, arith, add-one}
use Rattle.laws_words.proofs.OptionLemmas.{never_some}
use Rattle.laws_words.proofs.ListLemmas.{drop_past}
use Rattle.sts_tree.specs.Births.{births}
use Rattle.sts_tree.specs.Forest.{lives_in}
use Rattle.sts_cancel.proofs.RaisingLemmas.{done, fewer_live, has_record, no_rest, raised, raised_next, step}
use Rattle.sts_cancel.proofs.cancelling.raise_living.Goals as goal

pub returns-in_default : goal.returns-in_default
returns-in_default g c =
    let none = never_some c.loop.at (λ t e. c.in_default.not-Some t e) in
    done c.args.tree.now c.loop.tree c.args.s c.loop.counter c.loop.at c.loop.invariant (no_rest _ (sym c.loop.invariant.next ∙ none))

pub raise-requires : goal.raise-requires
raise-requires g c = has_record c.args.tree.now c.loop.tree c.args.s c.loop.counter c.in-Some.t (rw c.in-Some.is at c.loop.invariant)

pub living_after-at-requires : goal.living_after-at-requires
living_after-at-requires g c =
    let d = raised c.args.tree.now c.loop.tree c.raise.new.self c.args.s c.loop.counter c.in-Some.t (rw c.in-Some.is at c.loop.invariant) c.raise.ensures in
    let living = births (lives_in c.args.s) 0 c.args.tree.now.tasks in
    let next = raised_next c.args.tree.now c.loop.tree c.raise.new.self c.args.s c.loop.counter c.in-Some.t d in
    (c.args.s, take c.loop.counter living, drop (suc c.loop.counter) living, next)

pub loop-preserved : goal.loop-preserved
loop-preserved g c =
    let d = raised c.args.tree.now c.loop.tree c.raise.new.self c.args.s c.loop.counter c.in-Some.t (rw c.in-Some.is at c.loop.invariant) c.raise.ensures in
    let living = births (lives_in c.args.s) 0 c.args.tree.now.tasks in
    let next = raised_next c.args.tree.now c.loop.tree c.raise.new.self c.args.s c.loop.counter c.in-Some.t d in
    let after = c.living_after-at.ensures c.args.s (take c.loop.counter living) (drop (suc c.loop.counter) living) next in
    rw add-one (step c.args.tree.now c.loop.tree c.raise.new.self c.args.s c.loop.counter c.in-Some.t c.living_after-at.result d.task d.was d.is d.to after)

pub returns : goal.returns
returns g c =
    let fewer = fewer_live c.args.s 0 c.args.tree.now.tasks in
    let all = c.subtasks-end.ensures in
    done c.args.tree.now c.loop.tree c.args.s c.loop.counter c.loop.at c.loop.invariant (drop_past c.loop.counter _ (omega (arith, fewer, all)))
