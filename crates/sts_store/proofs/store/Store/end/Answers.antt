use Rattle.std.proofs.Common.{◌+◌, sym, ◌∙◌, ap, subst}
use Rattle.laws_live.specs.Effect.{live_end}
use Rattle.sts_store.specs.Agreeing.{at_end}
use Rattle.sts_store.specs.contracts.store.Store.{the_view}
use Rattle.sts_store.specs.Parts.{live_of, unseen_of, beside}
use Rattle.sts_store.proofs.Leaving.{end_kept, end_unseen, end_live, end_ends, as_ended}
use Rattle.sts_store.specs.Stored.{IsStore}
use Rattle.sts_store.proofs.Writing.{living, has_frame}
use Rattle.sts_store.proofs.store.Store.end.Goals as goal

pub finish-requires : goal.finish-requires
finish-requires c =
    let l = living (the_view c.self.inside) c.args.self.now c.self.invariant c.self.view_is c.args.t c.requires in
    (l.task, l.stands, l.lives)

pub discard-requires : goal.discard-requires
discard-requires c = has_frame (living (the_view c.self.inside) c.args.self.now c.self.invariant c.self.view_is c.args.t c.requires)

pub invariant_of-self : goal.invariant_of-self
invariant_of-self c =
    let m = the_view c.self.inside in
    let t = c.args.t in
    let l = living m c.args.self.now c.self.invariant c.self.view_is t c.requires in
    let g = c.finish.new.tree in
    let parts = as_ended m t g c.discard.new.self c.note_root_end.new.root_end c.args.end c.discard.ensures.slots c.discard.ensures.keys
    c.discard.ensures.room c.note_root_end.ensures in
    subst IsStore (sym parts) (end_kept m t g (m.frames.room + 1) (at_end (beside m) t c.args.end).root_end c.self.invariant
    (end_ends m t g c.args.end l (c.finish.ensures.finished l.task l.stands)))

pub returns-clause-live : goal.returns-clause-live
returns-clause-live c =
    let l = living (the_view c.self.inside) c.args.self.now c.self.invariant c.self.view_is c.args.t c.requires in
    let parts = as_ended (the_view c.self.inside) c.args.t c.finish.new.tree c.discard.new.self c.note_root_end.new.root_end c.args.end
    c.discard.ensures.slots c.discard.ensures.keys c.discard.ensures.room c.note_root_end.ensures in
    ap (λ n. live_of n) parts
    ∙ end_live (the_view c.self.inside) c.args.t c.finish.new.tree ((the_view c.self.inside).frames.room + 1) c.args.end l
    (c.finish.ensures.finished l.task l.stands) (λ s home. c.finish.ensures.home l.task s l.stands home)
    ∙ ap (λ n. live_end (live_of n) c.args.t c.args.end) c.self.view_is

pub returns-clause-unseen : goal.returns-clause-unseen
returns-clause-unseen c =
    let l = living (the_view c.self.inside) c.args.self.now c.self.invariant c.self.view_is c.args.t c.requires in
    let parts = as_ended (the_view c.self.inside) c.args.t c.finish.new.tree c.discard.new.self c.note_root_end.new.root_end c.args.end
    c.discard.ensures.slots c.discard.ensures.keys c.discard.ensures.room c.note_root_end.ensures in
    ap unseen_of parts
    ∙ end_unseen (the_view c.self.inside) c.args.t c.finish.new.tree ((the_view c.self.inside).frames.room + 1)
    (at_end (beside (the_view c.self.inside)) c.args.t c.args.end).root_end
    (end_ends (the_view c.self.inside) c.args.t c.finish.new.tree c.args.end l (c.finish.ensures.finished l.task l.stands))
    ∙ ap (λ n. record (unseen_of n) { frame_room = (unseen_of n).frame_room + 1 }) c.self.view_is
