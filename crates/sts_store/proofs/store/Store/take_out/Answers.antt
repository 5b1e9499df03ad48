use Rattle.std.proofs.Common.{◌≡◌, ◌+◌, ◌<◌, ◌^◌, None, sym, ◌∙◌, ap, subst, get_or}
use Rattle.sts_model.specs.declared.event.Stand.TheVariants.{Free}
use Rattle.sts_model.specs.declared.record.Frame.{Frame}
use Rattle.sts_store.specs.contracts.store.Store.{the_view}
use Rattle.sts_store.specs.Parts.{stand_in, unseen_of}
use Rattle.sts_store.proofs.CloseLemmas.{gone_on}
use Rattle.sts_store.proofs.Gone.{Leaves, leaves, leaver, scope, none_left, free, left_live, left_rest, left_kept}
use Rattle.sts_store.proofs.Writing.{living, has_frame, at_hand}
use Rattle.sts_store.proofs.store.Store.take_out.Goals.{After-at}
use Rattle.sts_store.proofs.store.Store.take_out.Goals as goal
use Rattle.laws_words.proofs.OptionLemmas.{not_none}

pub at-requires : goal.at-requires
at-requires c = has_frame (living (the_view c.self.inside) c.args.self.now c.self.invariant c.self.view_is c.args.t c.requires.lives)

-- the task leaves the scope
left : (c : After-at) → Leaves (the_view c.self.inside) c.args.self.now c.args.t c.args.s
left c =
    leaves (the_view c.self.inside) c.args.self.now c.self.invariant c.self.view_is c.args.t c.args.s c.requires.lives c.requires.order
    c.requires.entry c.requires.ended

pub close_scope-requires-clause-stands : goal.close_scope-requires-clause-stands
close_scope-requires-clause-stands c =
    let p = scope (left (goal.at.close_scope-requires-clause-stands c).After-at) in
    not_none (get_or c.self.inside.tree.scopes c.args.s None) p.0 p.1

pub close_scope-requires-clause-ended : goal.close_scope-requires-clause-ended
close_scope-requires-clause-ended c = none_left (left (goal.at.close_scope-requires-clause-ended c).After-at)

pub close_scope-requires-clause-free : goal.close_scope-requires-clause-free
close_scope-requires-clause-free c =
    free (left (goal.at.close_scope-requires-clause-free c).After-at)
    (subst (λ n. stand_in (unseen_of n) c.args.t ≡ Free) (sym c.self.view_is) c.requires.free)

pub leave_entry-requires : goal.leave_entry-requires
leave_entry-requires c =
    at_hand (leaver (left (goal.at.leave_entry-requires c).After-at) c.at.result.now c.at.ensures.value)
    (λ f. f.pc + 1 < 2 ^ 32) c.requires.more

pub invariant_of-self : goal.invariant_of-self
invariant_of-self c =
    left_kept (left (goal.at.invariant_of-self c).After-at) c.close_scope.new.self c.close_scope.ensures c.at.result.now
    c.at.ensures.value c.leave_entry.new.frame (ap (λ (f : Frame). f.entries) c.leave_entry.ensures)

pub returns-clause-live : goal.returns-clause-live
returns-clause-live c =
    left_live (left (goal.at.returns-clause-live c).After-at) c.close_scope.new.self c.close_scope.ensures c.at.result.now
    c.at.ensures.value c.leave_entry.new.frame (c.leave_entry.ensures ∙ ap (gone_on c.at.result.now.frame) c.clear.ensures)

pub returns-clause-unseen : goal.returns-clause-unseen
returns-clause-unseen c =
    left_rest (left (goal.at.returns-clause-unseen c).After-at) c.close_scope.new.self c.close_scope.ensures c.at.result.now
    c.at.ensures.value (record c.at.result.now { frame = c.leave_entry.new.frame })
