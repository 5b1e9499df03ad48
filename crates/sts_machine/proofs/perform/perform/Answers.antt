use Rattle.std.proofs.Common.{◌≡◌, ◌==◌, ℕ, false, true, sym, ◌∙◌, subst}
use Rattle.std.proofs.lemmas.Option.{slice_get_within}
use Rattle.sts_model.proofs.LocalLemmas.{local_stays}
use Rattle.sts_store.specs.Parts.{frame_of, live_of, unseen_of}
use Rattle.laws_live.specs.Effect.{live_effect}
use Rattle.laws_live.specs.Order.{InOrder}
use Rattle.laws_live.specs.Stands.{IsUnmoved}
use Rattle.sts_machine.proofs.Quiet.{local_unwaiting}
use Rattle.sts_machine.proofs.Stood.{others_stood, room_kept, stood_ended, unwaiting}
use Rattle.sts_machine.proofs.perform.perform.Goals as goal
use Rattle.sts_machine.proofs.perform.perform.Goals.{After-idle_stand_free}

-- the other tasks stay where they are
unmoved : (c : After-idle_stand_free) (i : ℕ) → (i == c.args.t) ≡ false → IsUnmoved c.args.program.now (live_of c.args.store.now) (live_effect c.args.program.now (live_of c.args.store.now) c.args.t (frame_of c.args.store.now c.args.t) c.args.instr.now) i
unmoved c i other =
    c.effects_move_one.ensures c.args.program.now (live_of c.args.store.now) c.requires.order c.args.t i c.args.instr.now
    c.requires.lives c.requires.fine other

pub local_step-is_near-requires-clause-in_frame : goal.local_step-is_near-requires-clause-in_frame
local_step-is_near-requires-clause-in_frame c = local_stays c.args.instr.now (sym c.is_local.ensures ∙ c.if-is_local.true)

pub local_step-is_near-requires-clause-inside : goal.local_step-is_near-requires-clause-inside
local_step-is_near-requires-clause-inside c = rw c.requires.own_code (slice_get_within _ _ _ c.requires.at)

pub say_stand_if_near-requires-clause-order : goal.say_stand_if_near-requires-clause-order
say_stand_if_near-requires-clause-order c = subst InOrder (sym c.local_step-is_near.ensures.live) c.requires.after

pub say_stand_if_near-requires-clause-others : goal.say_stand_if_near-requires-clause-others
say_stand_if_near-requires-clause-others c =
    others_stood c.args.program.now (live_of c.args.store.now) _ _ _ _ c.args.t c.local_step-is_near.ensures.live
    (unmoved (goal.at.say_stand_if_near-requires-clause-others c).After-idle_stand_free)
    c.idle_stand_free.ensures c.requires.standing c.local_step-is_near.ensures.rest

pub say_stand_if_near-requires-clause-free : goal.say_stand_if_near-requires-clause-free
say_stand_if_near-requires-clause-free c =
    let unwaiting_now = local_unwaiting c.args.instr.now (local_stays c.args.instr.now (sym c.is_local.ensures ∙ c.if-is_local.true)) in
    c.local_step-is_near.ensures.own ∙ c.requires.standing c.args.t c.requires.lives
    ∙ unwaiting c.args.program.now (live_of c.args.store.now) c.args.t c.args.instr.now c.requires.at unwaiting_now

pub returns-then-is_local-clause-room : goal.returns-then-is_local-clause-room
returns-then-is_local-clause-room c = λ b h. c.say_stand_if_near.ensures.room b (room_kept _ _ _ _ _ b c.local_step-is_near.ensures.rest h)

pub effect-requires-clause-inside : goal.effect-requires-clause-inside
effect-requires-clause-inside c = rw c.requires.own_code (slice_get_within _ _ _ c.requires.at)

pub returns-then-ends_task-clause-standing : goal.returns-then-ends_task-clause-standing
returns-then-ends_task-clause-standing c =
    stood_ended c.args.program.now (live_of c.effect.new.store) (unseen_of c.effect.new.store) c.args.t
    (others_stood c.args.program.now (live_of c.args.store.now) _ _ _ _ c.args.t c.effect.ensures.live
    (unmoved (goal.at.returns-then-ends_task-clause-standing c).After-idle_stand_free) c.idle_stand_free.ensures c.requires.standing c.effect.ensures.rest)
    (c.effect.ensures.ended (sym c.ends_task.ensures ∙ c.if-ends_task.true))

pub returns-then-ends_task-clause-room : goal.returns-then-ends_task-clause-room
returns-then-ends_task-clause-room c = λ b h. room_kept _ _ _ _ _ b c.effect.ensures.rest h

pub say_stand-requires-clause-lives : goal.say_stand-requires-clause-lives
say_stand-requires-clause-lives c = c.effect.ensures.stays (sym c.ends_task.ensures ∙ c.if-ends_task.false)

pub say_stand-requires-clause-order : goal.say_stand-requires-clause-order
say_stand-requires-clause-order c = subst InOrder (sym c.effect.ensures.live) c.requires.after

pub say_stand-requires-clause-others : goal.say_stand-requires-clause-others
say_stand-requires-clause-others c =
    others_stood c.args.program.now (live_of c.args.store.now) _ _ _ _ c.args.t c.effect.ensures.live
    (unmoved (goal.at.say_stand-requires-clause-others c).After-idle_stand_free) c.idle_stand_free.ensures c.requires.standing c.effect.ensures.rest

pub say_stand-requires-clause-free : goal.say_stand-requires-clause-free
say_stand-requires-clause-free c = λ e.
    let quiet = sym c.may_wait.ensures ∙ e in
    c.effect.ensures.own quiet ∙ c.requires.standing c.args.t c.requires.lives
    ∙ unwaiting c.args.program.now (live_of c.args.store.now) c.args.t c.args.instr.now c.requires.at quiet

pub returns-clause-room : goal.returns-clause-room
returns-clause-room c = λ b h. c.say_stand.ensures.room b (room_kept _ _ _ _ _ b c.effect.ensures.rest h)
