use Rattle.std.proofs.Common.{sym, ◌∙◌}
use Rattle.sts_store.specs.Parts.{live_of, frame_of}
use Rattle.sts_store.proofs.Phases.{join_expired, join_told, join_waits}
use Rattle.sts_store.proofs.store.Store.join.Goals as goal

pub returns-then-expired-clause-live : goal.returns-then-expired-clause-live
returns-then-expired-clause-live c =
    let now = c.args.self.now in
    c.joined.ensures.live ∙ sym (join_expired (live_of now) c.args.t (frame_of now c.args.t) c.args.s c.args.failed c.args.timeout c.args.interrupted
    (sym c.expired.ensures ∙ c.if-expired.true))

pub returns-then-has_result-clause-live : goal.returns-then-has_result-clause-live
returns-then-has_result-clause-live c =
    let now = c.args.self.now in
    c.take_result.ensures.live ∙ sym (join_told (live_of now) c.args.t (frame_of now c.args.t) c.args.s c.args.failed c.args.timeout c.args.interrupted
    (sym c.expired.ensures ∙ c.if-expired.false) (sym c.has_result.ensures ∙ c.if-has_result.true))

pub returns-else-has_result-clause-live : goal.returns-else-has_result-clause-live
returns-else-has_result-clause-live c =
    let now = c.args.self.now in
    c.attempted.ensures.live ∙ sym (join_waits (live_of now) c.args.t (frame_of now c.args.t) c.args.s c.args.failed c.args.timeout c.args.interrupted
    (sym c.expired.ensures ∙ c.if-expired.false) (sym c.has_result.ensures ∙ c.if-has_result.false))
