use Rattle.std.proofs.Common.{◌≡◌, ◌∙◌, slice_get, ap, subst}
use Rattle.sts_rules.specs.Edges.{follows}
use Rattle.sts_rules.specs.TypeState.{TypeState}
use Rattle.sts_types.specs.Arrivals.{ArriveAt}
use Rattle.sts_types.proofs.Arriving.{arrive_numbered}
use Rattle.sts_types.proofs.pass.spread.Goals as goal

pub loop-number-preserved : goal.loop-number-preserved
loop-number-preserved c =
    let out = λ (s : TypeState). follows c.args.site.now.program.now c.args.site.now.loops.now c.args.site.now.pc c.args.site.now.instr s in
    let table : c.go_back.new.self.table ≡ c.loop-number.arrivals.table = ap (λ a. a.table) c.go_back.ensures in
    let state : c.go_back.new.self.state ≡ c.args.arrivals.now.state = ap (λ a. a.state) c.go_back.ensures ∙ c.loop-number.invariant.0 in
    let start : c.go_back.new.self.start ≡ c.loop-number.arrivals.start = ap (λ a. a.start) c.go_back.ensures in
    let here : ArriveAt c.loop-number.arrivals.table (slice_get (out c.args.arrivals.now.state) c.loop-number.number) c.arrive_along.new.self.table =
    subst (λ t. ArriveAt t (slice_get (out c.args.arrivals.now.state) c.loop-number.number) c.arrive_along.new.self.table) table
    (subst (λ s. ArriveAt c.go_back.new.self.table (slice_get (out s) c.loop-number.number) c.arrive_along.new.self.table) state
    c.in_ok-arrive_along.ensures.table) in
    let there = arrive_numbered (out c.args.arrivals.now.state) c.args.arrivals.now.table c.loop-number.arrivals.table c.arrive_along.new.self.table
    c.loop-number.number c.loop-number.invariant.2 here in
    (c.arrive_along.ensures.start ∙ start ∙ c.loop-number.invariant.0, there.1 ∙ c.loop-number.invariant.1, there.0)
