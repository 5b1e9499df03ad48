use Rattle.std.proofs.Common.{IsTrue, IfSome, ◌↔◌, ◌≡◌, ◌<◌, Some, length, get_or, sym, subst}
use Rattle.sts_types.specs.declared.arrival.Arrival.TheVariants.{Nothing, One}
use Rattle.sts_types.proofs.Visiting.{back_is, turn_of, turn_fits}
use Rattle.sts_types.proofs.pass.keeps_turn.Goals as goal

pub back_to-requires : goal.back_to-requires
back_to-requires c = turn_fits c.args.instr c.args.arrivals.now.state c.state.result.now (length c.args.arrivals.now.table) c.state.ensures c.requires

pub is_one-requires : goal.is_one-requires
is_one-requires c =
    (turn_of c.args.instr c.args.arrivals.now.state c.state.result.now c.back_to.result c.in-Some.start
    (λ q. (q < 4294967296) × (q < length c.args.arrivals.now.table)) c.state.ensures c.back_to.ensures c.in-Some.is c.requires).1

pub returns-in-Some : goal.returns-in-Some
returns-in-Some c =
    subst (λ o. IsTrue c.is_one.result ↔ IfSome o (λ q. get_or c.args.arrivals.now.table q Nothing ≡ One c.args.arrivals.now.state))
    (sym (back_is c.args.instr c.args.arrivals.now.state c.state.result.now c.back_to.result (Some c.in-Some.start) c.state.ensures
    c.back_to.ensures c.in-Some.is)) c.is_one.ensures
