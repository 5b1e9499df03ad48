use Rattle.std.proofs.Common.{◌∙◌, ◌+◌, length, get_or, pos, sym, ap, subst, arith}
use Rattle.std.proofs.lemmas.List.{get_or_default}
use Rattle.sts_code.specs.Program.{instr_at}
use Rattle.sts_code.specs.declared.instr.Instr.TheVariants.{Push, Ret}
use Rattle.sts_types.specs.Passing.{PassedTo}
use Rattle.sts_types.specs.Simple.{IsShort}
use Rattle.sts_types.specs.Typing.{TellsTo}
use Rattle.sts_types.proofs.SimpleLemmas.{short_is}
use Rattle.sts_types.proofs.Visiting.{IsHere, loaded_is, dead_here, several_here, short_leads, goes_on_short}
use Rattle.sts_types.proofs.pass.visit.Goals.{After-load, In-One, In-Some}
use Rattle.sts_types.proofs.pass.visit.Goals as goal

-- the pass has come to this place, also in the table after the load
passed : (c : After-load) → PassedTo c.args.program.now c.args.function c.load.new.self.table c.args.pc
passed c = subst (λ t. PassedTo c.args.program.now c.args.function t c.args.pc) (sym c.load.ensures.table) c.requires.passed

-- the typestate that was loaded is the only one there
here : (c : In-One) → IsHere c.args.program.now c.args.function c.args.code.now c.load.new.self.table c.args.pc c.load.new.self.state (get_or c.args.code.now c.args.pc (Push (pos 0)))
here c = record {
  is = c.requires.code;
  within = c.requires.inside;
  at = subst (λ t. PassedTo c.args.program.now c.args.function t c.args.pc) (sym c.load.ensures.table) c.requires.passed;
  one = loaded_is c.args.arrivals.now.table c.load.new.self.table c.args.pc c.load.new.self.state _ _ c.load.ensures.table c.load.ensures.loaded c.in-One.is;
  instr = get_or_default c.args.code.now c.args.pc (Push (pos 0)) Ret c.requires.inside;
}

-- the short way may be taken
short : (c : In-Some) → IsShort c.args.program.now c.args.function c.args.pc (get_or c.args.code.now c.args.pc (Push (pos 0))) c.load.new.self.state c.in-Some.height
short c =
    short_is c.args.program.now c.args.function c.args.pc (get_or c.args.code.now c.args.pc (Push (pos 0))) c.load.new.self.state
    c.state.result.now c.in-Some.height c.short_way-short.result c.state.ensures c.short_way-short.ensures c.in-Some.is

pub load-requires : goal.load-requires
load-requires c = omega (arith, c.requires.inside, ap length c.requires.code, c.requires.passed.holds.0)

pub returns-in-Nothing : goal.returns-in-Nothing
returns-in-Nothing c =
    subst (TellsTo c.args.program.now c.args.function (c.args.pc + 1)) (sym c.refused.ensures) (dead_here c.args.program.now c.args.function c.args.code.now
    c.requires.code c.load.new.self.table c.args.pc c.requires.inside (passed (goal.at.returns-in-Nothing c).After-load) (loaded_is
    c.args.arrivals.now.table c.load.new.self.table
    c.args.pc c.load.new.self.state _ _ c.load.ensures.table c.load.ensures.loaded c.in-Nothing.is))

pub returns-in-Several : goal.returns-in-Several
returns-in-Several c =
    subst (TellsTo c.args.program.now c.args.function (c.args.pc + 1)) (sym c.refused-in-Several.ensures) (several_here c.args.program.now c.args.function
    c.args.code.now c.requires.code c.load.new.self.table c.args.pc c.requires.inside (passed (goal.at.returns-in-Several c).After-load) (loaded_is
    c.args.arrivals.now.table
    c.load.new.self.table c.args.pc c.load.new.self.state _ _ c.load.ensures.table c.load.ensures.loaded c.in-Several.is))

pub go_on-requires-clause-place : goal.go_on-requires-clause-place
go_on-requires-clause-place c =
    let h = goal.at.go_on-requires-clause-place c in
    short_leads (here h.In-One) (short h.In-Some) c.args.loops.now c.requires.loops

pub returns-in-Some : goal.returns-in-Some
returns-in-Some c =
    let h = goal.at.returns-in-Some c in
    goes_on_short (here h.In-One) (short h.In-Some) c.args.loops.now c.go_on.new.arrivals.table c.requires.loops c.go_on.ensures

pub visit_in_full-requires-clause-code : goal.visit_in_full-requires-clause-code
visit_in_full-requires-clause-code c = c.requires.loops ∙ c.requires.code

pub visit_in_full-requires-clause-instr : goal.visit_in_full-requires-clause-instr
visit_in_full-requires-clause-instr c = (here (goal.at.visit_in_full-requires-clause-instr c).In-One).instr ∙ ap (λ code. instr_at code c.args.pc) (sym
    c.requires.loops)

pub visit_in_full-requires-clause-passed : goal.visit_in_full-requires-clause-passed
visit_in_full-requires-clause-passed c = passed (goal.at.visit_in_full-requires-clause-passed c).After-load

pub visit_in_full-requires-clause-one : goal.visit_in_full-requires-clause-one
visit_in_full-requires-clause-one c = (here (goal.at.visit_in_full-requires-clause-one c).In-One).one

pub returns-in-None : goal.returns-in-None
returns-in-None c = c.visit_in_full.ensures
