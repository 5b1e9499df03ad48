use Rattle.std.proofs.Common.{◌<◌, length, arith, ◌∙◌}
use Rattle.ends_search.proofs.StateLemmas.{space_expanded}
use Rattle.ends_search.proofs.search.advance.Goals.{then-branch, else-branch}
use Rattle.ends_search.proofs.search.advance.Goals as goal

pub loop-preserved : goal.loop-preserved
loop-preserved g c =
    let i = c.loop.invariant in
    let d = c.in_ok-expand.ensures in
    let m = d.more in
    let less : c.loop.space.closed < length c.loop.space.origins.items = grind arith in
    elim c.if-branch.branch [
      | then-branch w ↦ rw w.space-is (m.first ∙ i.0, space_expanded i.1 m.space m.first m.closed less m.grows (d.all w.if-branch.true))
      | else-branch w ↦ rw w.space-is (m.first ∙ i.0, m.space)
    ]
