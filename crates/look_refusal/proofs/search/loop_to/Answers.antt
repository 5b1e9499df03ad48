use Rattle.std.proofs.Common.{◌≡◌, Some, sym, ap, ◌∙◌}
use Rattle.look_refusal.specs.Search.{paths}
use Rattle.look_refusal.proofs.Leading.{turn_end}
use Rattle.look_refusal.proofs.search.loop_to.Goals as goal

pub loop_from-requires-clause-opens : goal.loop_from-requires-clause-opens
loop_from-requires-clause-opens c =
    let t = turn_end c.args.search.now c.requires.ready c.args.end c.requires.ends in
    let is : Some c.in-Some.head ≡ Some t.0 = sym c.in-Some.is ∙ c.head.ensures ∙ t.1.1.3 in
    let same : c.in-Some.head ≡ t.0 = cc in
    (t.1.0, ap (paths c.args.search.now).shape same ∙ t.1.1.0)
