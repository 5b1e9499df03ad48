use Rattle.look_refusal.proofs.TellLemmas.{nothing_told, no_budget}
use Rattle.look_refusal.proofs.explaining.Told.say_detail.Goals as goal

pub returns-in_default : goal.returns-in_default
returns-in_default c = nothing_told c.args.self.program.now c.args.self.outline.now c.args.function c.args.pc c.args.cause
    c.args.out.now.items c.in_default.not-StatesDiffer (no_budget c.args.self.program.now c.args.function c.args.cause
    c.in_default.not-TooManySteps c.in_default.not-TooManyTasks c.in_default.not-TooManyScopes c.in_default.not-TooManyBinds)
