use Rattle.std.proofs.Common.{[], ◌∷◌, ◌-◌, ◌<◌, ◌∙◌, ap, length, w64}
use Rattle.std.proofs.lemmas.Int.{to_z-of_z}
use Rattle.sts_model.specs.Local.{goes}
use Rattle.sts_model.specs.declared.record.Frame.{Frame}
use Rattle.sts_store.specs.contracts.store.Store.{the_view}
use Rattle.sts_store.proofs.Writing.{hand_of, living, has_frame, at_hand, frame_done, frame_kept}
use Rattle.sts_store.proofs.store.Store.goes_with.Goals as goal

pub at-requires : goal.at-requires
at-requires c = has_frame (living (the_view c.self.inside) c.args.self.now c.self.invariant c.self.view_is c.args.t c.requires.lives)

pub goes_with-requires : goal.goes_with-requires
goes_with-requires c =
    let h = hand_of c.self.invariant c.self.view_is c.args.t c.requires.lives c.at.ensures.value in
    at_hand h (λ f. length f.operands - c.args.n < 32) c.requires.room

pub invariant_of-self : goal.invariant_of-self
invariant_of-self c =
    let h = hand_of c.self.invariant c.self.view_is c.args.t c.requires.lives c.at.ensures.value in
    frame_kept h c.goes_with.new.self (ap (λ (f : Frame). f.entries) c.goes_with.ensures)

pub returns-clause-live : goal.returns-clause-live
returns-clause-live c =
    let h = hand_of c.self.invariant c.self.view_is c.args.t c.requires.lives c.at.ensures.value in
    let is = c.goes_with.ensures ∙ ap (λ v. goes c.at.result.now.frame c.args.to c.args.n (v ∷ [])) (to_z-of_z w64 c.args.value c.ranges.value) in
    frame_done h c.goes_with.new.self (λ f. goes f c.args.to c.args.n (c.args.value ∷ [])) is
