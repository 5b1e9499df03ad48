use Rattle.std.proofs.Common.{◌≡◌, ◌<◌, ◌∙◌, length, get_or, pos, Ok, refl, sym, ap, arith}
use Rattle.sts_code.specs.declared.instr.Instr.TheVariants.{Push}
use Rattle.sts_rules.specs.Edges.{follows}
use Rattle.sts_types.specs.Room.{HasRoom}
use Rattle.sts_types.proofs.EdgeLemmas.{refused_there, edges_there}
use Rattle.sts_types.proofs.Fitting.{fits}
use Rattle.sts_types.proofs.RoomLemmas.{has_room}
use Rattle.sts_types.proofs.Sites.{is_site, of_site, to_site}
use Rattle.sts_types.proofs.edge.edges_with_loops.Goals as goal

pub all_edges-requires-clause-site : goal.all_edges-requires-clause-site
all_edges-requires-clause-site c =
    let within : c.args.pc < length c.args.loops.now = omega (arith, c.requires.pc, ap length c.requires.loops) in
    is_site c.in-Ok.ensures.0 c.requires.loops within

pub all_edges-requires-clause-room : goal.all_edges-requires-clause-room
all_edges-requires-clause-room c =
    to_site c.in-Ok.ensures.0 (λ p f loops pc i. HasRoom p i c.args.state.now) (has_room c.args.program.now c.args.function c.args.pc _ c.args.state.now
    (fits c.args.program.now c.args.function c.args.pc _ c.args.state.now c.in-Ok.ensures.1))

pub returns-in-Err : goal.returns-in-Err
returns-in-Err c =
    let within : c.args.pc < length c.code_of.result.now = omega (arith, c.requires.pc, ap length c.code_of.ensures.value) in
    refused_there c.args.program.now c.args.function c.code_of.result.now c.code_of.ensures.value c.args.pc within c.args.state.now _
    (Push (pos 0)) refl c.in-Err.cause c.in-Err.ensures

pub returns-in-Ok : goal.returns-in-Ok
returns-in-Ok c =
    let within : c.args.pc < length c.code_of.result.now = omega (arith, c.requires.pc, ap length c.code_of.ensures.value) in
    let found = of_site c.in-Ok.ensures.0 (λ p f loops pc i. c.all_edges.result ≡ follows p loops pc i c.args.state.now) c.all_edges.ensures in
    edges_there c.args.program.now c.args.function c.code_of.result.now c.code_of.ensures.value c.args.pc within c.args.state.now _
    (Push (pos 0)) refl c.in-Ok.ensures.1
    ∙ ap Ok (ap (λ code. follows c.args.program.now code c.args.pc (get_or c.code_of.result.now c.args.pc (Push (pos 0))) c.args.state.now)
    (sym c.requires.loops) ∙ sym found)
