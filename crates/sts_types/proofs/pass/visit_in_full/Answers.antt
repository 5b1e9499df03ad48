use Rattle.std.proofs.Common.{◌≡◌, ◌+◌, ◌<◌, None, length, refl, sym, subst}
use Rattle.std.specs.List.{All}
use Rattle.sts_rules.specs.Causes.{least_cause}
use Rattle.sts_rules.specs.Edges.{follows}
use Rattle.sts_types.specs.Arrivals.{Arrive}
use Rattle.sts_types.specs.Room.{HasRoom}
use Rattle.sts_types.specs.Typing.{TellsTo}
use Rattle.sts_types.proofs.Sites.{is_site, of_site, to_site}
use Rattle.sts_types.proofs.Visiting.{IsHere, least_is, cause_here, room, places, back_fits, turn_here, keeps_here, goes_on_here}
use Rattle.sts_types.proofs.pass.visit_in_full.Goals.{After-state, In-Ok}
use Rattle.sts_types.proofs.pass.visit_in_full.Goals as goal

-- the pass has come to this place
here : (c : After-state) → IsHere c.args.program.now c.args.function c.args.loops.now c.args.arrivals.now.table c.args.pc c.args.arrivals.now.state c.args.instr
here c = record { is = c.requires.code; within = c.requires.inside; at = c.requires.passed; one = c.requires.one; instr = c.requires.instr }

-- no cause holds there
none : (c : In-Ok) → least_cause c.args.program.now c.args.function c.args.pc c.args.instr c.args.arrivals.now.state ≡ None
none c =
    least_is c.args.program.now c.args.function c.args.pc c.args.instr c.args.arrivals.now.state c.state.result.now _ _ c.state.ensures refl
    c.in-Ok.ensures.1

pub returns-in-Err : goal.returns-in-Err
returns-in-Err c =
    subst (TellsTo c.args.program.now c.args.function (c.args.pc + 1)) (sym c.refused.ensures)
    (cause_here (here (goal.at.returns-in-Err c).After-state) c.in-Err.cause
    (least_is c.args.program.now c.args.function c.args.pc c.args.instr c.args.arrivals.now.state c.state.result.now _ _ c.state.ensures refl
    c.in-Err.ensures))

pub keeps_turn-requires : goal.keeps_turn-requires
keeps_turn-requires c =
    let h = goal.at.keeps_turn-requires c in
    back_fits (here h.After-state) (none h.In-Ok) c.requires.small

pub returns-then-not-keeps_turn : goal.returns-then-not-keeps_turn
returns-then-not-keeps_turn c =
    let h = goal.at.returns-then-not-keeps_turn c in
    subst (TellsTo c.args.program.now c.args.function (c.args.pc + 1)) (sym c.refused-then-not-keeps_turn.ensures)
    (turn_here (here h.After-state) (none h.In-Ok) c.keeps_turn.result c.keeps_turn.ensures c.if-not-keeps_turn.true)

pub follow-requires-clause-site : goal.follow-requires-clause-site
follow-requires-clause-site c = is_site c.in-Ok.ensures.0 c.requires.code c.requires.inside

pub follow-requires-clause-small : goal.follow-requires-clause-small
follow-requires-clause-small c = to_site c.in-Ok.ensures.0 (λ p f loops pc i. pc < 4096) c.requires.small

pub follow-requires-clause-room : goal.follow-requires-clause-room
follow-requires-clause-room c =
    let h = goal.at.follow-requires-clause-room c in
    to_site c.in-Ok.ensures.0 (λ p f loops pc i. HasRoom p i c.args.arrivals.now.state) (room (here h.After-state) (none h.In-Ok))

pub follow-requires-clause-places : goal.follow-requires-clause-places
follow-requires-clause-places c =
    let h = goal.at.follow-requires-clause-places c in
    to_site c.in-Ok.ensures.0 (λ p f loops pc i. All (λ e. e.0 < length c.args.arrivals.now.table) (follows p loops pc i c.args.arrivals.now.state))
    (places (here h.After-state) (none h.In-Ok) c.args.loops.now (length c.args.arrivals.now.table) refl refl)

pub returns : goal.returns
returns c =
    let h = goal.at.returns c in
    let keeps = keeps_here (here h.After-state) (none h.In-Ok) c.keeps_turn.result c.keeps_turn.ensures c.if-not-keeps_turn.false in
    let arrives = of_site c.in-Ok.ensures.0 (λ p f loops pc i. Arrive c.args.arrivals.now.table (follows p loops pc i c.args.arrivals.now.state)
    c.follow.new.arrivals.table) c.in_ok-follow.ensures in
    goes_on_here (here h.After-state) (none h.In-Ok) c.args.loops.now c.follow.new.arrivals.table refl keeps arrives
