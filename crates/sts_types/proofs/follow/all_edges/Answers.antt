use Rattle.std.proofs.Common.{◌∙◌, slice_get, ap, subst}
use Rattle.sts_rules.specs.Edges.{follows}
use Rattle.sts_rules.specs.TypeState.{TypeState}
use Rattle.sts_types.specs.Arrivals.{Goes}
use Rattle.sts_types.proofs.Marking.{edge_taken, edge_missing}
use Rattle.sts_types.proofs.follow.all_edges.Goals as goal
use Rattle.sts_types.proofs.follow.all_edges.Goals.{in-Some, in_default}

pub loop-number-preserved : goal.loop-number-preserved
loop-number-preserved c =
    let out = λ (s : TypeState). follows c.args.site.now.program.now c.args.site.now.loops.now c.args.site.now.pc c.args.site.now.instr s in
    let goes : Goes (slice_get (out c.args.state.now) c.loop-number.number) c.copy-after.result c.edge.result c.edge.new.state = subst
    (λ s. Goes (slice_get (out s) c.loop-number.number) c.copy-after.result c.edge.result c.edge.new.state) c.copy-after.ensures
    c.edge.ensures in
    elim c.match-edge.branch [
      | in-Some w ↦ edge_taken (out c.args.state.now) c.loop-number.number c.copy-after.result c.edge.result c.edge.new.state w.in-Some.to
          c.loop-number.edges.items c.match-edge.edges.items c.loop-number.invariant goes w.in-Some.is
          (ap (λ e. e.items) w.edges-is ∙ w.push.ensures.items)
      | in_default w ↦ edge_missing (out c.args.state.now) c.loop-number.number c.copy-after.result c.edge.result c.edge.new.state
          c.loop-number.edges.items c.match-edge.edges.items c.loop-number.invariant goes w.in_default.is (ap (λ e. e.items) w.edges-is)
    ]
