use Rattle.std.proofs.Common.{◌+◌, ◌++◌, ◌∷◌, [], sym, ◌∙◌, ap}
use Rattle.sts_model.specs.declared.event.Event.TheVariants as event
use Rattle.sts_machine.proofs.Turning.{one_step, stands_after, runs_well}
use Rattle.sts_machine.proofs.machine.Machine.step.Goals as goal

pub returns-clause-stands : goal.returns-clause-stands
returns-clause-stands c =
    let m = c.args.self.now in
    let one = one_step m.program m.live c.args.task c.requires in
    stands_after m c.take_step.new.self (event.Step c.args.task) c.laws.ensures c.take_step.ensures.program c.take_step.ensures.live
    (c.take_step.ensures.steps ∙ sym (ap (λ k. m.steps + k) one))

pub returns-clause-runs_well : goal.returns-clause-runs_well
returns-clause-runs_well c =
    λ events b h is. runs_well c.args.self.now.program c.laws.ensures b is (events ++ event.Step c.args.task ∷ [])
