use Rattle.std.proofs.Common.{◌∙◌, length, slice_get, sym, ap, arith}
use Rattle.sts_rules.specs.Edges.{follows}
use Rattle.sts_types.proofs.Arriving.{place_within}
use Rattle.sts_types.proofs.pass.follow.Goals as goal

pub arrive_moved-requires-clause-place : goal.arrive_moved-requires-clause-place
arrive_moved-requires-clause-place c =
    let there = ap
    (λ s. slice_get (follows c.args.site.now.program.now c.args.site.now.loops.now c.args.site.now.pc c.args.site.now.instr s) 0)
    (sym c.state.ensures) ∙ ap (λ es. slice_get es 0) (c.in-Some.ensures.edge c.args.site.now.loops.now) in
    place_within
    (follows c.args.site.now.program.now c.args.site.now.loops.now c.args.site.now.pc c.args.site.now.instr c.args.arrivals.now.state) 0
    c.in-Some.to (length c.args.arrivals.now.table) _ there c.requires.places

pub go_one_way-requires-clause-one : goal.go_one_way-requires-clause-one
go_one_way-requires-clause-one c =
    let count = c.edge_count.ensures c.args.site.now.program.now c.args.site.now.loops.now c.args.site.now.pc c.args.arrivals.now.state in
    omega (arith, count, c.if-edge_count-eq1.true)
