use Rattle.std.proofs.Common.{◌≡◌, ◌<◌, ◌≤◌, ◌+◌, ◌-◌, ◌^◌, [], ◌∷◌, ◌++◌, None, refl, sym, ◌∙◌, ap, subst, get_or, length, arith, cond, take}
use Rattle.std.specs.Prelude.{reverse}
use Rattle.std.proofs.lemmas.Option.{same_Some}
use Rattle.laws_words.proofs.OptionLemmas.{not_none}
use Rattle.sts_code.specs.Program.{routine}
use Rattle.sts_model.specs.Effect.{forked}
use Rattle.sts_model.specs.World.{entry_frame}
use Rattle.sts_model.specs.declared.record.Frame.{Frame}
use Rattle.sts_model.specs.declared.record.Slot.TheVariants.{Lent}
use Rattle.laws_live.specs.Effect.{live_fork}
use Rattle.laws_live.specs.Order.{InOrder}
use Rattle.sts_store.specs.contracts.store.Store.{the_view}
use Rattle.sts_store.specs.declared.running.Running.{Running}
use Rattle.sts_store.specs.Parts.{live_of, frame_of}
use Rattle.sts_store.proofs.Writing.{Hand, hand_of, living, has_frame, at_hand, frame_is}
use Rattle.sts_store.proofs.Seeing.{scope_stands, scope_is_some}
use Rattle.sts_store.proofs.Forks.{Forking, tasks_born, begun, born_if, still_there, same_run, fork_kept, fork_live, fork_unseen, unseen_forked}
use Rattle.sts_store.proofs.store.Store.fork.Goals.{After-place, After-record-forker}
use Rattle.sts_store.proofs.store.Store.fork.Goals as goal

pub env-env-requires : goal.env-env-requires
env-env-requires c = scope_is_some (the_view c.self.inside) c.args.s (rw (← c.self.view_is) at c.requires.stands)

pub record-forker-requires : goal.record-forker-requires
record-forker-requires c = has_frame (living (the_view c.self.inside) c.args.self.now c.self.invariant c.self.view_is c.args.t c.requires.lives)

-- the forker, by the record that was read
reader : (c : After-record-forker) → Hand (the_view c.self.inside) c.args.self.now c.args.t c.record-forker.result.now
reader c = hand_of c.self.invariant c.self.view_is c.args.t c.requires.lives c.record-forker.ensures

pub entry_frame-entry-requires-clause-enough : goal.entry_frame-entry-requires-clause-enough
entry_frame-entry-requires-clause-enough c =
    let needs = (routine c.args.program.now c.args.function).args in
    let enough : needs ≤ length c.record-forker.result.now.frame.operands = at_hand (reader c) (λ f. needs ≤ length f.operands) c.requires.enough in
    let args = c.args-args.ensures.value in
    omega (arith, enough, args)

pub add_subtask-child-requires-clause-born : goal.add_subtask-child-requires-clause-born
add_subtask-child-requires-clause-born c =
    let m = the_view c.self.inside in
    let born : length (live_of m).tasks < 1000000 = subst (λ n. length (live_of n).tasks < 1000000) (sym c.self.view_is) c.requires.born in
    let same = tasks_born m in
    omega (arith, born, same)

pub add_subtask-child-requires-clause-stands : goal.add_subtask-child-requires-clause-stands
add_subtask-child-requires-clause-stands c = scope_is_some (the_view c.self.inside) c.args.s (rw (← c.self.view_is) at c.requires.stands)

pub place-requires-clause-births : goal.place-requires-clause-births
place-requires-clause-births c =
    let m = the_view c.self.inside in
    let born : length (live_of m).tasks < 1000000 = subst (λ n. length (live_of n).tasks < 1000000) (sym c.self.view_is) c.requires.born in
    let same = tasks_born m in
    let frames = c.self.invariant.born in
    omega (arith, born, same, frames)

-- the subtask at its first place
abbrev child : After-place → Running
child c = begun c.args.function c.entry_frame-entry.result.locals (Lent c.args.s) c.env-env.result.now

forking : (c : After-place) → Forking (the_view c.self.inside) c.args.t c.args.s (child c) c.add_subtask-child.new.self c.place.new.frames
forking c =
    let m = the_view c.self.inside in
    let p = scope_stands m c.args.s (rw (← c.self.view_is) at c.requires.stands) in
    let lives = c.add_subtask-child.ensures.lives p.0 p.1 in
    record {
      is = c.self.invariant;
      order = subst (λ n. InOrder (live_of n)) (sym c.self.view_is) c.requires.order;
      forker = living m c.args.self.now c.self.invariant c.self.view_is c.args.t c.requires.lives;
      scope = p.0;
      at = p.1;
      env = c.env-env.ensures p.0 p.1;
      slots = c.place.ensures.slots ∙ ap (λ b. m.frames.slots ++ born_if b (child c) ∷ []) lives;
      same = c.add_subtask-child.ensures.added p.0 p.1;
    }

pub at-requires : goal.at-requires
at-requires c =
    let k = forking (goal.at.at-requires c).After-place in
    not_none (get_or c.place.new.frames.slots c.args.t None) k.forker.run (still_there k)

pub leave_fork-requires : goal.leave_fork-requires
leave_fork-requires c =
    let k = forking (goal.at.leave_fork-requires c).After-place in
    let first = hand_of c.self.invariant c.self.view_is c.args.t c.requires.lives k.forker.runs in
    let same = frame_is first ∙ ap (λ (z : Running). z.frame) (sym (same_run k c.at.result.now c.at.ensures.value)) in
    subst (λ (f : Frame). f.pc + 1 < 2 ^ 32) same c.requires.more

pub invariant_of-self : goal.invariant_of-self
invariant_of-self c =
    fork_kept (forking (goal.at.invariant_of-self c).After-place) c.at.result.now c.at.ensures.value c.leave_fork.new.frame refl
    (ap (λ (f : Frame). f.entries) c.leave_fork.ensures)

-- the subtask begins with the arguments that the forker has on its stack
begins : (c : After-place) (run : Running) → c.record-forker.result.now ≡ run → (child c).frame ≡ entry_frame c.args.function (reverse (take (routine c.args.program.now c.args.function).args run.frame.operands)) (Lent c.args.s)
begins c run same =
    let needs = (routine c.args.program.now c.args.function).args in
    ap (λ (f : Frame). record (entry_frame c.args.function [] (Lent c.args.s)) { locals = f.locals }) c.entry_frame-entry.ensures
    ∙ ap (λ a. entry_frame c.args.function (reverse (take a c.record-forker.result.now.frame.operands)) (Lent c.args.s)) c.args-args.ensures.value
    ∙ ap (λ (z : Running). entry_frame c.args.function (reverse (take needs z.frame.operands)) (Lent c.args.s)) same

pub returns-clause-live : goal.returns-clause-live
returns-clause-live c =
    let here = (goal.at.returns-clause-live c).After-place in
    let k = forking here in
    let r = c.at.result.now in
    let first = begins here k.forker.run (same_Some _ _ (sym c.record-forker.ensures ∙ k.forker.runs)) in
    let frame =
    c.leave_fork.ensures
    ∙ ap (λ a. forked r.frame a c.args.handle c.add_subtask-child.result.0) c.args-args.ensures.value
    ∙ ap (forked r.frame (routine c.args.program.now c.args.function).args c.args.handle) c.add_subtask-child.ensures.birth in
    fork_live k r c.at.ensures.value c.args.program.now c.args.function c.args.handle c.leave_fork.new.frame first frame
    ∙ ap (λ n. live_fork c.args.program.now (live_of n) c.args.t (frame_of n c.args.t) c.args.s c.args.function c.args.handle) c.self.view_is

pub returns-clause-unseen : goal.returns-clause-unseen
returns-clause-unseen c =
    let k = forking (goal.at.returns-clause-unseen c).After-place in
    let (key, keys) = c.add_subtask-child.ensures.keys in
    let lives = c.add_subtask-child.ensures.lives k.scope k.at in
    let room = c.place.ensures.room ∙ ap (λ b. cond b (c.self.inside.frames.room - 1) c.self.inside.frames.room) lives in (
      key,
      fork_unseen k c.at.result.now c.at.ensures.value c.leave_fork.new.frame key keys room
          ∙ ap (λ n. unseen_forked n c.args.s key) c.self.view_is,
    )
