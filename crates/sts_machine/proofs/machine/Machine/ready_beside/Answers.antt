use Rattle.std.proofs.Common.{ap, not, ◌&&◌, ℕ}
use Rattle.laws_live.specs.Waiting.{live_can_step}
use Rattle.sts_store.specs.Parts.{can_go_on, live_of}
use Rattle.sts_tree.proofs.PassingLemmas.{is_out}
use Rattle.sts_machine.proofs.CanStep.{can_same, picks}
use Rattle.sts_machine.proofs.machine.Machine.ready_beside.Goals as goal

pub returns : goal.returns
returns c =
    let p = c.self.inside.verified.now in
    let m = c.self.inside.store in
    let is_in = λ (t : ℕ). not (is_out c.args.out.now t) in
    rw (← c.self.view_is)
    (picks (λ t. live_can_step p (live_of m) t && is_in t) (λ t. can_go_on m t && is_in t) c.ready_beside.result
    (λ t. ap (λ b. b && is_in t) (can_same p m c.self.invariant.standing t)) c.ready_beside.ensures.some c.ready_beside.ensures.none)
