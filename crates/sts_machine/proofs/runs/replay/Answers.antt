use Rattle.std.proofs.Common.{◌<◌, length, take, sym, ◌∙◌, subst, arith}
use Rattle.std.proofs.lemmas.List.{take_all, take_more}
use Rattle.laws_live.specs.Seen.{StandsAt}
use Rattle.sts_machine.proofs.Turning.{runs_well}
use Rattle.sts_machine.proofs.runs.replay.Goals as goal

pub returns-in_err-machine-clause-runs_well : goal.returns-in_err-machine-clause-runs_well
returns-in_err-machine-clause-runs_well c = λ b is. runs_well c.args.verified.now c.laws.ensures.laws b is c.args.events.now

pub returns-clause-runs_well : goal.returns-clause-runs_well
returns-clause-runs_well c = λ b is. runs_well c.args.verified.now c.laws.ensures.laws b is c.args.events.now

pub loop-event-preserved : goal.loop-event-preserved
loop-event-preserved c =
    let i = c.loop-event.event-index in
    let es = c.args.events.now in
    let here : i < length es = c.loop-event-test.true in (
      c.turn.ensures.program ∙ c.loop-event.invariant.0,
      subst (λ xs. StandsAt c.turn.new.self.program xs c.turn.new.self.live c.turn.new.self.steps) (sym (take_more es i _ here))
          (c.turn.ensures.stands (take i es) c.loop-event.invariant.1),
    )

pub returns-clause-stands : goal.returns-clause-stands
returns-clause-stands c =
    let m = c.loop-event.machine in
    let all = take_all c.loop-event.event-index c.args.events.now (omega (arith, c.loop-event-test.false)) in
    subst (λ xs. StandsAt m.program xs m.live m.steps) all c.loop-event.invariant.1
