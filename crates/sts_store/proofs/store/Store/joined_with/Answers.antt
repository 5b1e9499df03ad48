use Rattle.std.proofs.Common.{[], ◌∷◌, ◌∙◌, ap, w64}
use Rattle.std.proofs.lemmas.Int.{to_z-of_z}
use Rattle.sts_model.specs.Local.{goes}
use Rattle.laws_live.specs.Reading.{alive_at, with_live_frame}
use Rattle.sts_store.specs.Parts.{live_of, frame_of}
use Rattle.sts_store.proofs.store.Store.joined_with.Goals as goal

pub returns-clause-live : goal.returns-clause-live
returns-clause-live c =
    c.goes_with.ensures.live
    ∙ ap (λ n. with_live_frame (live_of c.set_phase.new.self) c.args.t (goes (frame_of c.set_phase.new.self c.args.t) c.args.to 0 (n ∷ [])))
    (to_z-of_z w64 c.args.value c.ranges.value)
    ∙ ap (λ v. with_live_frame v c.args.t (goes (alive_at v c.args.t).frame c.args.to 0 (c.args.value ∷ []))) c.set_phase.ensures.live
