use Rattle.std.proofs.Common.{◌≡◌, ◌∙◌, ap}
use Rattle.sts_model.specs.declared.record.Frame.{Frame}
use Rattle.sts_store.specs.contracts.store.Store.{the_view}
use Rattle.sts_store.proofs.Writing.{hand_of, living, has_frame, at_hand, frame_done, frame_kept}
use Rattle.sts_store.proofs.store.Store.put_frame.Goals.{After-at}
use Rattle.sts_store.proofs.store.Store.put_frame.Goals as goal

pub at-requires : goal.at-requires
at-requires c = has_frame (living (the_view c.self.inside) c.args.self.now c.self.invariant c.self.view_is c.args.t c.requires.lives)

-- the new frame has the structure list of the one at hand
same_entries : (c : After-at) → c.args.frame.now.entries ≡ c.at.result.now.frame.entries
same_entries c =
    let h = hand_of c.self.invariant c.self.view_is c.args.t c.requires.lives c.at.ensures.value in
    at_hand h (λ f. c.args.frame.now.entries ≡ f.entries) c.requires.entries

pub write_frame-requires : goal.write_frame-requires
write_frame-requires c = same_entries (goal.at.write_frame-requires c).After-at

pub invariant_of-self : goal.invariant_of-self
invariant_of-self c =
    let h = hand_of c.self.invariant c.self.view_is c.args.t c.requires.lives c.at.ensures.value in
    frame_kept h c.write_frame.new.frame (ap (λ (f : Frame). f.entries) c.write_frame.ensures ∙ same_entries (goal.at.invariant_of-self c).After-at)

pub returns-clause-live : goal.returns-clause-live
returns-clause-live c =
    let h = hand_of c.self.invariant c.self.view_is c.args.t c.requires.lives c.at.ensures.value in
    frame_done h c.write_frame.new.frame (λ f. c.args.frame.now) c.write_frame.ensures
