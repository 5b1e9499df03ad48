use Rattle.std.proofs.Common.{refl, arith}
use Rattle.std.proofs.lemmas.Result.{on_ok_weaker}
use Rattle.sts_budget.specs.Change.{cause_of}
use Rattle.look_refusal.specs.Heavy.{IsHeavy, IsUntold}
use Rattle.look_refusal.proofs.TellLemmas.{nothing_told, heavy_told, heavy_cause, typed_of, untold_budget}
use Rattle.look_refusal.proofs.explaining.Told.say_heavy.Goals as goal

pub heaviest-requires-clause-typed : goal.heaviest-requires-clause-typed
heaviest-requires-clause-typed c = typed_of c.args.self.program.now c.args.function c.args.pc c.args.resource (cause_of c.args.resource) refl c.requires.1

pub weight_lines-requires : goal.weight_lines-requires
weight_lines-requires c =
    let h : IsHeavy c.args.self.program.now c.args.function c.args.resource c.in-Some.heavy = rw c.in-Some.is at c.in_ok-heaviest.ensures in
    omega (arith, h.few)

pub returns-in-None : goal.returns-in-None
returns-in-None c =
    let u : IsUntold c.args.self.program.now c.args.function c.args.resource = rw c.in-None.is at c.in_ok-heaviest.ensures in
    nothing_told c.args.self.program.now c.args.self.outline.now c.args.function c.args.pc (cause_of c.args.resource) c.args.out.now.items
    (heavy_cause c.args.resource) (untold_budget c.args.self.program.now c.args.function c.args.pc c.args.resource c.requires.1 u)

pub returns-in-Some : goal.returns-in-Some
returns-in-Some c =
    on_ok_weaker c.weight_lines.result
    (heavy_told c.args.self.program.now c.args.self.outline.now c.args.function c.args.pc c.args.resource c.in-Some.heavy
    c.args.out.now.items c.weight_lines.new.out.items
    (rw c.in-Some.is at c.in_ok-heaviest.ensures)) c.weight_lines.ensures
