use Rattle.std.proofs.Common.{[], ◌+◌, ◌<◌, ◌^◌, ◌∙◌, ap}
use Rattle.sts_model.specs.Local.{local}
use Rattle.sts_model.specs.declared.record.Frame.{Frame}
use Rattle.sts_store.specs.contracts.store.Store.{the_view}
use Rattle.laws_runs.proofs.EntryLemmas.{same-local}
use Rattle.sts_store.proofs.Writing.{Hand, hand_of, living, has_frame, at_hand, frame_done, frame_kept}
use Rattle.sts_store.proofs.store.Store.empties.Goals.{After-at}
use Rattle.sts_store.proofs.store.Store.empties.Goals as goal

pub at-requires : goal.at-requires
at-requires c = has_frame (living (the_view c.self.inside) c.args.self.now c.self.invariant c.self.view_is c.args.t c.requires.lives)

hand : (c : After-at) → Hand (the_view c.self.inside) c.args.self.now c.args.t c.at.result.now
hand c = hand_of c.self.invariant c.self.view_is c.args.t c.requires.lives c.at.ensures.value

pub empties-requires-clause-more : goal.empties-requires-clause-more
empties-requires-clause-more c = at_hand (hand (goal.at.empties-requires-clause-more c).After-at) (λ f. f.pc + 1 < 2 ^ 32) c.requires.more

pub invariant_of-self : goal.invariant_of-self
invariant_of-self c =
    frame_kept (hand (goal.at.invariant_of-self c).After-at) c.empties.new.frame
    (ap (λ (f : Frame). f.entries) (c.empties.ensures []) ∙ same-local [] c.args.instr c.at.result.now.frame)

pub returns-clause-live : goal.returns-clause-live
returns-clause-live c = λ code.
    frame_done (hand (goal.at.returns-clause-live c).After-at) c.empties.new.frame (local code c.args.instr) (c.empties.ensures code)
