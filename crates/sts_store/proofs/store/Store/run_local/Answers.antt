use Rattle.std.proofs.Common.{◌≡◌, ◌∙◌, Some, refl, sym, ap, subst, true}
use Rattle.sts_frames.specs.Locals.{AreSafe, local_at, locals}
use Rattle.laws_live.specs.Reading.{lives_in, with_live_frame}
use Rattle.sts_store.specs.Parts.{live_of, frame_of}
use Rattle.sts_store.specs.contracts.store.Store.{the_view}
use Rattle.sts_store.proofs.InARow.{frame_now, locals_entries}
use Rattle.sts_store.proofs.Views.{with_running}
use Rattle.sts_store.proofs.Writing.{hand_of, living, has_frame, at_hand, frame_is, frame_done, frame_kept}
use Rattle.sts_store.proofs.store.Store.run_local.Goals.{After-run_local}
use Rattle.sts_store.proofs.store.Store.run_local.Goals as goal

pub at-requires : goal.at-requires
at-requires c = has_frame (living (the_view c.self.inside) c.args.self.now c.self.invariant c.self.view_is c.args.t c.requires.lives)

pub run_local-requires-clause-safe : goal.run_local-requires-clause-safe
run_local-requires-clause-safe c =
    let h = hand_of c.self.invariant c.self.view_is c.args.t c.requires.lives c.at.ensures.value in
    at_hand h (AreSafe c.args.program.now c.args.code.now) c.requires.safe

pub invariant_of-self : goal.invariant_of-self
invariant_of-self c =
    let h = hand_of c.self.invariant c.self.view_is c.args.t c.requires.lives c.at.ensures.value in
    frame_kept h c.run_local.new.frame
    (locals_entries c.args.code.now c.at.result.now.frame c.run_local.result c.run_local.new.frame c.run_local.ensures.local)

-- the frame that was written is the one that contracts see afterwards
after : (c : After-run_local) → frame_of (with_running (the_view c.self.inside) c.args.t (record c.at.result.now { frame = c.run_local.new.frame }) c.self.inside.chains) c.args.t ≡ c.run_local.new.frame
after c =
    let h = hand_of c.self.invariant c.self.view_is c.args.t c.requires.lives c.at.ensures.value in
    frame_now (the_view c.self.inside) c.args.t c.at.result.now (record c.at.result.now { frame = c.run_local.new.frame })
    (frame_kept h c.run_local.new.frame
    (locals_entries c.args.code.now c.at.result.now.frame c.run_local.result c.run_local.new.frame c.run_local.ensures.local))
    (subst (λ p. lives_in (live_of p) c.args.t ≡ true) (sym c.self.view_is) c.requires.lives) h.at

pub returns-clause-live : goal.returns-clause-live
returns-clause-live c =
    let h = hand_of c.self.invariant c.self.view_is c.args.t c.requires.lives c.at.ensures.value in
    let f = c.run_local.new.frame in
    frame_done h f (λ g. f) refl
    ∙ ap (with_live_frame (live_of c.args.self.now) c.args.t) (sym (after (goal.at.returns-clause-live c).After-run_local))

pub returns-clause-local : goal.returns-clause-local
returns-clause-local c =
    let h = hand_of c.self.invariant c.self.view_is c.args.t c.requires.lives c.at.ensures.value in
    ap (λ g. locals c.args.code.now g c.run_local.result) (frame_is h)
    ∙ c.run_local.ensures.local
    ∙ ap Some (sym (after (goal.at.returns-clause-local c).After-run_local))

pub returns-clause-stops : goal.returns-clause-stops
returns-clause-stops c =
    λ less. ap (local_at c.args.code.now) (after (goal.at.returns-clause-stops c).After-run_local) ∙ c.run_local.ensures.stops less
