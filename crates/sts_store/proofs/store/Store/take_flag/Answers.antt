use Rattle.std.proofs.Common.{◌+◌, ◌<◌, ◌^◌, length, false, refl, ap, sym, ◌≡◌, ◌∙◌, ◌∷◌, [], arith, rules, w64}
use mir.Val.{SFits}
use Rattle.sts_model.specs.Local.{steps, truth}
use Rattle.laws_live.specs.Effect.{live_take_flag}
use Rattle.sts_store.proofs.Views.{Lived, alive_of}
use Rattle.sts_model.specs.declared.record.Frame.{Frame}
use Rattle.sts_store.specs.contracts.store.Store.{the_view}
use Rattle.sts_store.specs.Parts.{live_of, unseen_of, frame_of}
use Rattle.sts_store.proofs.Flags.{flag_rest, flag_frame_seen}
use Rattle.sts_store.proofs.Keeping.{kept_task}
use Rattle.sts_store.proofs.Writing.{hand_of, truth_pushed, living, has_frame, has_task, at_hand, frame_is, entries_kept}
use Rattle.sts_store.proofs.store.Store.take_flag.Goals.{After-goes_with}
use Rattle.sts_store.proofs.store.Store.take_flag.Goals as goal

pub take_flag-flag-requires : goal.take_flag-flag-requires
take_flag-flag-requires c = has_task (living (the_view c.self.inside) c.args.self.now c.self.invariant c.self.view_is c.args.t c.requires.lives)

pub at-requires : goal.at-requires
at-requires c = has_frame (living (the_view c.self.inside) c.args.self.now c.self.invariant c.self.view_is c.args.t c.requires.lives)

pub overflow_add-next : goal.overflow_add-next
overflow_add-next c =
    let h = hand_of c.self.invariant c.self.view_is c.args.t c.requires.lives c.at.ensures.value in
    let more : c.at.result.now.frame.pc + 1 < 2 ^ 32 = at_hand h (λ f. f.pc + 1 < 2 ^ 32) c.requires.more in
    omega (arith, more)

pub goes_with-requires : goal.goes_with-requires
goes_with-requires c =
    let h = hand_of c.self.invariant c.self.view_is c.args.t c.requires.lives c.at.ensures.value in
    let few : length c.at.result.now.frame.operands < 32 = at_hand h (λ f. length f.operands < 32) c.requires.room in
    omega (arith, few)

pub invariant_of-self : goal.invariant_of-self
invariant_of-self c =
    let m = the_view c.self.inside in
    let l = living m c.args.self.now c.self.invariant c.self.view_is c.args.t c.requires.lives in
    entries_kept (record m { tree = c.take_flag-flag.new.self }) c.args.t c.at.result.now c.goes_with.new.self
    (kept_task c.self.invariant l (record l.task { flag = false }) c.take_flag-flag.new.self (c.take_flag-flag.ensures.cleared l.task l.stands) refl refl)
    c.at.ensures.value (ap (λ (f : Frame). f.entries) c.goes_with.ensures)

-- the frame after the flag was pushed
pushed : (c : After-goes_with) (l : Lived (the_view c.self.inside) c.args.t) → SFits w64 c.from.result → c.goes_with.new.self ≡ steps c.at.result.now.frame 0 (truth l.task.flag ∷ [])
pushed c l fits =
    let value = truth_pushed c.from.result c.take_flag-flag.result l.task.flag fits c.from.ensures (c.take_flag-flag.ensures.flag l.task l.stands) in
    c.goes_with.ensures ∙ ap (λ v. steps c.at.result.now.frame 0 (v ∷ [])) value

pub returns-clause-live : goal.returns-clause-live
returns-clause-live c =
    let m = the_view c.self.inside in
    let h = hand_of c.self.invariant c.self.view_is c.args.t c.requires.lives c.at.ensures.value in
    let l = h.lived in
    let fits : SFits w64 c.from.result = search rules in
    let done = pushed (goal.at.returns-clause-live c).After-goes_with l fits in
    flag_frame_seen m c.args.t l false c.take_flag-flag.new.self (c.take_flag-flag.ensures.cleared l.task l.stands)
    c.at.result.now c.goes_with.new.self (λ alive. record alive { frame = steps c.at.result.now.frame 0 (truth alive.flag ∷ []); flag = false }) h.at
    (ap (λ f. record { frame = f; flag = false; environment = (alive_of m.chains l.task.flag l.run).environment }) done)
    ∙ ap (λ f. live_take_flag (live_of m) c.args.t f) (sym (frame_is h))
    ∙ ap (λ p. live_take_flag (live_of p) c.args.t (frame_of c.args.self.now c.args.t)) c.self.view_is

pub returns-clause-unseen : goal.returns-clause-unseen
returns-clause-unseen c =
    let l = living (the_view c.self.inside) c.args.self.now c.self.invariant c.self.view_is c.args.t c.requires.lives in
    flag_rest (the_view c.self.inside) c.args.t l false c.take_flag-flag.new.self (c.take_flag-flag.ensures.cleared l.task l.stands)
    ∙ ap unseen_of c.self.view_is
