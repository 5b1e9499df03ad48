use Rattle.std.proofs.Common.{◌<◌, ◌+◌, ◌-◌, ◌^◌, sym, ◌∙◌, ap, subst, length}
use Rattle.laws_live.specs.Effect.{live_open}
use Rattle.laws_live.specs.Order.{InOrder}
use Rattle.sts_store.specs.contracts.store.Store.{the_view}
use Rattle.sts_store.specs.Parts.{live_of, frame_of}
use Rattle.sts_store.specs.Stored.{IsStore}
use Rattle.sts_store.proofs.Views.{Lived}
use Rattle.sts_store.proofs.Entering.{with_run, entered, open_live, open_kept, as_opened}
use Rattle.sts_store.proofs.Writing.{hand_of, living, has_frame, at_hand}
use Rattle.sts_store.proofs.store.Store.open.Goals.{After-at-running}
use Rattle.sts_store.proofs.store.Store.open.Goals as goal

pub at-running-requires : goal.at-running-requires
at-running-requires c = has_frame (living (the_view c.self.inside) c.args.self.now c.self.invariant c.self.view_is c.args.t c.requires.lives)

pub enter_scope-requires-clause-more : goal.enter_scope-requires-clause-more
enter_scope-requires-clause-more c =
    let h = hand_of c.self.invariant c.self.view_is c.args.t c.requires.lives c.at-running.ensures.value in
    at_hand h (λ f. f.pc + 1 < 2 ^ 32) c.requires.more

pub enter_scope-requires-clause-room : goal.enter_scope-requires-clause-room
enter_scope-requires-clause-room c =
    let h = hand_of c.self.invariant c.self.view_is c.args.t c.requires.lives c.at-running.ensures.value in
    at_hand h (λ f. length f.entries < 16) c.requires.entries

-- the task, by the record at hand
abbrev opener : (c : After-at-running) → Lived (the_view c.self.inside) c.args.t
opener c =
    let l = living (the_view c.self.inside) c.args.self.now c.self.invariant c.self.view_is c.args.t c.requires.lives in
    with_run (the_view c.self.inside) c.args.t c.at-running.result.now l c.at-running.ensures.value

pub invariant_of-self : goal.invariant_of-self
invariant_of-self c =
    let m = the_view c.self.inside in
    let l = opener (goal.at.invariant_of-self c).After-at-running in
    let g = c.open_scope-s.new.self in
    let frame = c.enter_scope.ensures ∙ ap (entered l.run.frame c.args.slot) c.open_scope-s.ensures.birth in
    let parts = as_opened m c.args.t c.args.slot c.args.joiner c.args.timed l g c.enter_scope.new.frame c.open_scope-s.ensures.opened frame in
    let order : InOrder (live_of m) = rw (← c.self.view_is) at c.requires.order in
    subst IsStore (sym parts)
    (open_kept m c.args.t c.args.slot c.args.joiner c.args.timed g.scope_keys (m.tree.scope_room - 1) c.self.invariant order l)

pub returns-clause-live : goal.returns-clause-live
returns-clause-live c =
    let m = the_view c.self.inside in
    let l = opener (goal.at.returns-clause-live c).After-at-running in
    let g = c.open_scope-s.new.self in
    let frame = c.enter_scope.ensures ∙ ap (entered l.run.frame c.args.slot) c.open_scope-s.ensures.birth in
    ap live_of (as_opened m c.args.t c.args.slot c.args.joiner c.args.timed l g c.enter_scope.new.frame c.open_scope-s.ensures.opened frame)
    ∙ open_live m c.args.t c.args.slot c.args.joiner c.args.timed g.scope_keys (m.tree.scope_room - 1) l
    ∙ ap (λ n. live_open (live_of n) c.args.t (frame_of n c.args.t) c.args.slot c.args.joiner c.args.timed) c.self.view_is
