use Rattle.std.proofs.Common.{◌≡◌, ◌≤◌, ◌∙◌, Some, ap, arith, length, sym}
use Rattle.sts_code.specs.Program.{instr_at, routine}
use Rattle.sts_rules.specs.Edges.{back_of}
use Rattle.look_refusal.proofs.ForwardLemmas.{turn_fits, turns_back}
use Rattle.look_refusal.proofs.MeetingLemmas.{typing_before, keeps_turn}
use Rattle.look_refusal.proofs.ways.turn_at.Goals.{In_ok-at}
use Rattle.look_refusal.proofs.ways.turn_at.Goals as goal

-- the turn began at no later place
begun : (c : In_ok-at) → c.in_ok-at.at ≤ c.args.pc
begun c =
    turns_back c.args.program.now c.args.function c.args.pc c.instr_here-instr.result c.args.last.now c.in_ok-at.at c.requires.alone.0
    (sym c.in_ok-at.ensures)

pub back_to-requires : goal.back_to-requires
back_to-requires c =
    turn_fits c.args.program.now c.args.function c.args.pc _ c.args.last.now c.requires.alone.0
    (omega (arith, c.requires.pc, ap length c.code_of.ensures.value, c.code_of.ensures.short))

pub first_way-requires-clause-to : goal.first_way-requires-clause-to
first_way-requires-clause-to c = omega (arith, begun c, c.requires.pc)

pub first_way-requires-clause-typing : goal.first_way-requires-clause-typing
first_way-requires-clause-typing c =
    typing_before c.args.program.now c.args.function c.in_ok-at.at c.args.pc c.args.typing.now (begun c) c.requires.typing

pub returns-then-is_same : goal.returns-then-is_same
returns-then-is_same c =
    let back : back_of (instr_at (routine c.args.program.now c.args.function).code c.args.pc) c.args.last.now ≡ Some c.in_ok-at.at =
    sym (c.in_ok-at.ensures ∙ ap (λ i. back_of i c.args.last.now) (c.instr_here-instr.ensures
    ∙ ap (λ code. instr_at code c.args.pc) c.code_of.ensures.value)) in
    keeps_turn c.args.program.now c.args.function c.args.pc c.args.last.now c.requires.alone c.requires.typing.clear c.in_ok-at.at
    c.in_ok-one.one.state back (begun (goal.at.returns-then-is_same c).In_ok-at) c.in_ok-one.ensures.1
    (c.is_same.ensures.0 c.if-is_same.true)
