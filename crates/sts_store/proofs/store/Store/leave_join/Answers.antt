use Rattle.std.proofs.Common.{◌≡◌, ℕ, [], false, refl, ap, sym, ◌∙◌}
use Rattle.sts_model.specs.Local.{goes}
use Rattle.sts_model.specs.Live.{Live}
use Rattle.sts_model.specs.declared.record.Frame.{Frame}
use Rattle.laws_live.specs.Reading.{with_alive}
use Rattle.sts_store.specs.contracts.store.Store.{the_view}
use Rattle.sts_store.specs.Parts.{live_of, unseen_of, frame_of}
use Rattle.sts_store.proofs.Flags.{flag_rest, flag_frame_seen}
use Rattle.sts_store.proofs.Keeping.{kept_task}
use Rattle.sts_store.proofs.Writing.{hand_of, living, has_frame, has_task, frame_is, entries_kept}
use Rattle.sts_store.proofs.store.Store.leave_join.Goals as goal

pub clear_flag-requires : goal.clear_flag-requires
clear_flag-requires c = has_task (living (the_view c.self.inside) c.args.self.now c.self.invariant c.self.view_is c.args.t c.requires)

pub at-requires : goal.at-requires
at-requires c = has_frame (living (the_view c.self.inside) c.args.self.now c.self.invariant c.self.view_is c.args.t c.requires)

pub invariant_of-self : goal.invariant_of-self
invariant_of-self c =
    let m = the_view c.self.inside in
    let l = living m c.args.self.now c.self.invariant c.self.view_is c.args.t c.requires in
    entries_kept (record m { tree = c.clear_flag.new.self }) c.args.t c.at.result.now c.goes.new.self
    (kept_task c.self.invariant l (record l.task { flag = false }) c.clear_flag.new.self (c.clear_flag.ensures l.task l.stands) refl refl)
    c.at.ensures.value (ap (λ (f : Frame). f.entries) c.goes.ensures)

-- the task's flag is clear, and it is at another frame
left : Live → ℕ → Frame → Live
left v t f = with_alive v t (λ alive. record alive { frame = f; flag = false })

pub returns-clause-live : goal.returns-clause-live
unfolding left
returns-clause-live c =
    let m = the_view c.self.inside in
    let now = c.args.self.now in
    let t = c.args.t in
    let r = c.at.result.now in
    let h = hand_of c.self.invariant c.self.view_is t c.requires c.at.ensures.value in
    let frame : c.goes.new.self ≡ goes (frame_of now t) c.args.to 0 [] = c.goes.ensures ∙ ap (λ f. goes f c.args.to 0 []) (sym (frame_is h)) in
    flag_frame_seen m t h.lived false c.clear_flag.new.self (c.clear_flag.ensures h.lived.task h.lived.stands) r c.goes.new.self
    (λ alive. record alive { frame = c.goes.new.self; flag = false }) h.at refl
    ∙ ap (λ f. left (live_of m) t f) frame
    ∙ ap (λ n. left (live_of n) t (goes (frame_of now t) c.args.to 0 [])) c.self.view_is

pub returns-clause-unseen : goal.returns-clause-unseen
returns-clause-unseen c =
    let l = living (the_view c.self.inside) c.args.self.now c.self.invariant c.self.view_is c.args.t c.requires in
    flag_rest (the_view c.self.inside) c.args.t l false c.clear_flag.new.self (c.clear_flag.ensures l.task l.stands)
    ∙ ap unseen_of c.self.view_is
