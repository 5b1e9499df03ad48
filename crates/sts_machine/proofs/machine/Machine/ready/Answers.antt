use Rattle.std.proofs.Common.{sym, subst}
use Rattle.sts_model.specs.Run.{after}
use Rattle.sts_model.specs.Waiting.{can_step}
use Rattle.laws_runs.specs.Runs.{In}
use Rattle.laws_live.specs.Waiting.{live_can_step}
use Rattle.sts_store.specs.Parts.{can_go_on, live_of}
use Rattle.sts_machine.specs.Machine.{Seen, Stands}
use Rattle.sts_machine.specs.Turned.{Picks}
use Rattle.sts_machine.proofs.CanStep.{can_same, picks}
use Rattle.sts_machine.proofs.Telling.{ready_there}
use Rattle.sts_machine.proofs.machine.Machine.ready.Goals as goal

pub returns-clause-stands : goal.returns-clause-stands
returns-clause-stands c =
    let p = c.self.inside.verified.now in
    let m = c.self.inside.store in
    let o = c.ready_front.result in
    let picked = picks (live_can_step p (live_of m)) (can_go_on m) o (can_same p m c.self.invariant.standing) c.ready_front.ensures.some
    c.ready_front.ensures.none in
    λ events h.
    subst (λ (s : Seen). In (λ w. Picks (can_step s.program w) o) (after s.program events)) c.self.view_is
    (ready_there p events (live_of m) c.self.inside.steps (subst (λ (s : Seen). Stands s events) (sym c.self.view_is) h)
    c.self.invariant.laws o picked)
