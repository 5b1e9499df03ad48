use Rattle.std.proofs.Common.{◌≡◌, ◌+◌, ◌<◌, ◌^◌, drop, true, ap, sym, subst}
use Rattle.sts_model.specs.Misuse.{innermost, is_binding}
use Rattle.sts_model.specs.declared.record.Frame.{Frame}
use Rattle.laws_live.specs.Order.{InOrder}
use Rattle.sts_store.specs.contracts.store.Store.{the_view}
use Rattle.sts_store.specs.declared.running.Running.{Running}
use Rattle.sts_store.specs.Parts.{live_of}
use Rattle.sts_store.proofs.BindingLemmas.{BoundFirst, Unbound, bound_first, innermost_of, is_bound, whole_here, unbound_store, unbound_live}
use Rattle.sts_store.proofs.Writing.{hand_of, living, has_frame, at_hand}
use Rattle.sts_store.proofs.store.Store.unbind.Goals.{After-at-running, After-leave_entry}
use Rattle.sts_store.proofs.store.Store.unbind.Goals as goal

pub at-running-requires : goal.at-running-requires
at-running-requires c = has_frame (living (the_view c.self.inside) c.args.self.now c.self.invariant c.self.view_is c.args.t c.requires.lives)

first : (c : After-at-running) → BoundFirst c.at-running.result.now.frame.entries
first c =
    let h = hand_of c.self.invariant c.self.view_is c.args.t c.requires.lives c.at-running.ensures.value in
    bound_first c.at-running.result.now.frame.entries (at_hand h (λ f. innermost is_binding f.entries ≡ true) c.requires.bound)

pub unbind-running-requires-clause-some : goal.unbind-running-requires-clause-some
unbind-running-requires-clause-some c =
    let m = the_view c.self.inside in
    let r = c.at-running.result.now in
    is_bound m c.self.invariant c.args.t r r m.chains c.at-running.ensures.value
    (innermost_of m c.self.invariant c.args.t r r m.chains c.at-running.ensures.value (first (goal.at.unbind-running-requires-clause-some c).After-at-running))

pub unbind-running-requires-clause-whole : goal.unbind-running-requires-clause-whole
unbind-running-requires-clause-whole c =
    whole_here (the_view c.self.inside) c.self.invariant c.args.t c.at-running.result.now c.at-running.result.now c.self.inside.chains
    c.at-running.ensures.value

pub leave_entry-requires : goal.leave_entry-requires
leave_entry-requires c =
    let h = hand_of c.self.invariant c.self.view_is c.args.t c.requires.lives c.at-running.ensures.value in
    at_hand h (λ f. f.pc + 1 < 2 ^ 32) c.requires.more

-- what the task has afterwards
abbrev after : After-leave_entry → Running
after c = record { frame = c.leave_entry.new.frame; env = c.unbind-running.result }

unbound : (c : After-leave_entry) → BoundFirst c.at-running.result.now.frame.entries → Unbound (the_view c.self.inside) c.self.invariant c.args.t c.at-running.result.now (after c) c.unbind-running.new.self c.at-running.ensures.value
unbound c first =
    record {
      order = subst (λ p. InOrder (live_of p)) (sym c.self.view_is) c.requires.order;
      first = first;
      entries = ap (λ (f : Frame). f.entries) c.leave_entry.ensures;
      whole = c.unbind-running.ensures.whole;
      takes = c.unbind-running.ensures.takes;
      others = c.unbind-running.ensures.others;
    }

pub invariant_of-self : goal.invariant_of-self
invariant_of-self c =
    let here = (goal.at.invariant_of-self c).After-leave_entry in
    unbound_store (the_view c.self.inside) c.self.invariant c.args.t c.at-running.result.now (after here) c.unbind-running.new.self
    c.at-running.ensures.value (unbound here (first (goal.at.invariant_of-self c).After-at-running))

pub returns-clause-live : goal.returns-clause-live
returns-clause-live c =
    let here = (goal.at.returns-clause-live c).After-leave_entry in
    let h = hand_of c.self.invariant c.self.view_is c.args.t c.requires.lives c.at-running.ensures.value in
    unbound_live (the_view c.self.inside) c.self.invariant c.args.t c.at-running.result.now (after here) c.unbind-running.new.self
    c.at-running.ensures.value (unbound here (first (goal.at.returns-clause-live c).After-at-running)) c.args.self.now h c.leave_entry.ensures
    (ap (drop 1) c.unbind-running.ensures.list.1)
