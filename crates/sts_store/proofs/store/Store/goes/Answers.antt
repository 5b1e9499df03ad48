use Rattle.std.proofs.Common.{[], ap}
use Rattle.sts_model.specs.Local.{goes}
use Rattle.sts_model.specs.declared.record.Frame.{Frame}
use Rattle.sts_store.specs.contracts.store.Store.{the_view}
use Rattle.sts_store.proofs.Writing.{hand_of, living, has_frame, frame_done, frame_kept}
use Rattle.sts_store.proofs.store.Store.goes.Goals as goal

pub at-requires : goal.at-requires
at-requires c = has_frame (living (the_view c.self.inside) c.args.self.now c.self.invariant c.self.view_is c.args.t c.requires.lives)

pub invariant_of-self : goal.invariant_of-self
invariant_of-self c =
    let h = hand_of c.self.invariant c.self.view_is c.args.t c.requires.lives c.at.ensures.value in
    frame_kept h c.goes.new.self (ap (λ (f : Frame). f.entries) c.goes.ensures)

pub returns-clause-live : goal.returns-clause-live
returns-clause-live c =
    let h = hand_of c.self.invariant c.self.view_is c.args.t c.requires.lives c.at.ensures.value in
    frame_done h c.goes.new.self (λ f. goes f c.args.to c.args.n []) c.goes.ensures
