use Rattle.std.proofs.Common.{[], ◌+◌, ap, ◌∙◌}
use Rattle.sts_model.specs.Effect.{case_target, named}
use Rattle.sts_model.specs.Local.{goes}
use Rattle.sts_model.specs.Misuse.{slot}
use Rattle.sts_model.specs.declared.record.Frame.{Frame}
use Rattle.laws_live.specs.Effect.{live_state}
use Rattle.laws_live.specs.Reading.{with_live_frame}
use Rattle.sts_store.specs.Parts.{frame_of, live_of}
use Rattle.sts_store.proofs.store.Store.case.Goals as goal

pub returns-clause-live : goal.returns-clause-live
returns-clause-live c p =
    let now = c.args.self.now in
    let state = c.state-state.ensures ∙ ap (λ u. live_state (live_of now) u)
    (c.named.ensures ∙ ap (λ f. named (slot f c.args.handle)) c.frame-frame.ensures) in
    let to =
    c.case_target.ensures
    ∙ ap (λ o. case_target o c.args.success c.args.failed (c.frame-frame.result.now.pc + 1)) state
    ∙ ap (λ (f : Frame). case_target (live_state (live_of now) (named (slot (frame_of now c.args.t) c.args.handle))) c.args.success
    c.args.failed (f.pc + 1)) c.frame-frame.ensures in
    c.goes.ensures.live ∙ ap (λ n. with_live_frame (live_of now) c.args.t (goes (frame_of now c.args.t) n 0 [])) to
