use Rattle.std.proofs.Common.{ap, ◌∙◌, rules, w64}
use mir.Val.{SFits}
use Rattle.sts_model.specs.Effect.{named}
use Rattle.sts_model.specs.Misuse.{slot}
use Rattle.laws_live.specs.Reading.{live_scope_at}
use Rattle.sts_store.specs.Parts.{live_of}
use Rattle.sts_store.proofs.Writing.{went_on, truth_pushed}
use Rattle.sts_store.proofs.store.Store.push_cancelled.Goals as goal

pub returns-clause-live : goal.returns-clause-live
returns-clause-live c p =
    let now = c.args.self.now in
    let fits : SFits w64 c.from.result = search rules in
    let cancelled = c.cancelled-cancelled.ensures ∙ ap (λ s. (live_scope_at (live_of now) s).cancelled)
    (c.named.ensures ∙ ap (λ f. named (slot f c.args.scope)) c.frame-frame.ensures) in
    let value = truth_pushed c.from.result _ _ fits c.from.ensures cancelled in
    went_on now _ c.args.t 0 c.frame-frame.result.now _ _ c.goes_with.ensures.live c.frame-frame.ensures value
