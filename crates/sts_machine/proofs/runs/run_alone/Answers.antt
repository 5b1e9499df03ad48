use Rattle.std.proofs.Common.{◌++◌, ◌∷◌, [], sym, ◌∙◌, refl, subst}
use Rattle.sts_model.specs.declared.event.Event.TheVariants as event
use Rattle.laws_live.specs.Seen.{StandsAt}
use Rattle.laws_live.specs.Waiting.{live_can_step}
use Rattle.sts_machine.specs.Laws.{HasLaws}
use Rattle.sts_machine.proofs.CanStep.{none_picked}
use Rattle.sts_machine.proofs.Whole.{root_has_ended, runs_to, step_taken, steps_on}
use Rattle.sts_machine.proofs.runs.run_alone.Goals as goal

pub loop-task-smaller : goal.loop-task-smaller
loop-task-smaller c =
    let m = c.loop-task.machine in
    let is = c.loop-task.invariant in
    step_taken m c.turn.new.self c.in-Some.task (subst HasLaws (sym is.0) c.laws.ensures.laws)
    c.turn.ensures.program c.turn.ensures.steps c.in-Some.ensures.seen
    (is.1.0 ++ event.Step c.in-Some.task ∷ []) (c.turn.ensures.stands is.1.0 is.1.1.1)

pub loop-task-preserved : goal.loop-task-preserved
loop-task-preserved c =
    let is = c.loop-task.invariant in (
      c.turn.ensures.program ∙ is.0,
      (
        is.1.0 ++ event.Step c.in-Some.task ∷ [],
        (
          steps_on c.args.verified.now c.loop-task.machine c.in-Some.task c.laws.ensures.laws is.0 c.in-Some.ensures.seen is.1.0 is.1.1.1 is.1.1.0,
          c.turn.ensures.stands is.1.0 is.1.1.1,
        ),
      ),
    )

pub unwrap-requires : goal.unwrap-requires
unwrap-requires c =
    let m = c.loop-task.machine in
    let is = c.loop-task.invariant in
    let none = none_picked (live_can_step m.program m.live) c.ready.result c.ready.ensures.seen c.in_default.not-Some in
    let end = root_has_ended m.program (subst HasLaws (sym is.0) c.laws.ensures.laws) c.nothing_is_lost.ensures is.1.0 m.live m.steps is.1.1.1 none in
    rw (c.end_of.ensures ∙ end.1) refl

pub returns : goal.returns
returns c =
    let m = c.loop-task.machine in
    let is = c.loop-task.invariant in
    runs_to c.args.verified.now is.1.0 m.live m.steps c.unwrap.result is.1.1.0
    (subst (λ q. StandsAt q is.1.0 m.live m.steps) is.0 is.1.1.1)
    (sym c.end_of.ensures ∙ c.unwrap.ensures)
