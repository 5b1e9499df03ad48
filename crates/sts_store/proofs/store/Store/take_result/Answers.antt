use Rattle.std.proofs.Common.{[], ◌∷◌, sym, ◌∙◌, ap, ◌+◌, w64, rules}
use mir.Val.{SFits}
use Rattle.std.proofs.lemmas.Int.{to_z-of_z}
use Rattle.sts_model.specs.declared.event.Verdict.TheVariants as verdict
use Rattle.sts_model.specs.declared.record.Frame.{Frame}
use Rattle.sts_model.specs.Local.{goes}
use Rattle.laws_live.specs.Effect.{live_joined, live_verdict}
use Rattle.sts_store.specs.Parts.{live_of, frame_of}
use Rattle.sts_store.proofs.store.Store.take_result.Goals as goal

pub returns-in-Ok-None-clause-live : goal.returns-in-Ok-None-clause-live
returns-in-Ok-None-clause-live c =
    let now = c.args.self.now in
    let f = frame_of now c.args.t in
    c.joined.ensures.live
    ∙ ap (λ (g : Frame). live_joined (live_of now) c.args.t c.args.s (goes f (g.pc + 1) 0 [])) c.frame.ensures
    ∙ sym (ap (λ q. live_verdict q (live_of now) c.args.t c.args.s f c.args.failed)
    (sym c.verdict.ensures ∙ c.in-Ok-None.is ∙ ap verdict.Ok c.in-Ok-None.field-0-is))

pub returns-in-Ok-Some-clause-live : goal.returns-in-Ok-Some-clause-live
returns-in-Ok-Some-clause-live c =
    let now = c.args.self.now in
    let f = frame_of now c.args.t in
    let fits : SFits w64 c.in-Ok-Some.value = search rules in
    c.joined_with.ensures.live
    ∙ ap (λ n. live_joined (live_of now) c.args.t c.args.s (goes f (c.frame.result.now.pc + 1) 0 (n ∷ [])))
    (to_z-of_z w64 c.in-Ok-Some.value fits)
    ∙ ap (λ (g : Frame). live_joined (live_of now) c.args.t c.args.s (goes f (g.pc + 1) 0 (c.in-Ok-Some.value ∷ []))) c.frame.ensures
    ∙ sym (ap (λ q. live_verdict q (live_of now) c.args.t c.args.s f c.args.failed)
    (sym c.verdict.ensures ∙ c.in-Ok-Some.is ∙ ap verdict.Ok c.in-Ok-Some.field-0-is))

pub returns-in-Failed-clause-live : goal.returns-in-Failed-clause-live
returns-in-Failed-clause-live c =
    let now = c.args.self.now in
    let f = frame_of now c.args.t in
    let fits : SFits w64 c.in-Failed.code = search rules in
    c.joined_with-in-Failed.ensures.live
    ∙ ap (λ n. live_joined (live_of now) c.args.t c.args.s (goes f c.args.failed 0 (n ∷ []))) (to_z-of_z w64 c.in-Failed.code fits)
    ∙ sym (ap (λ q. live_verdict q (live_of now) c.args.t c.args.s f c.args.failed) (sym c.verdict.ensures ∙ c.in-Failed.is))
