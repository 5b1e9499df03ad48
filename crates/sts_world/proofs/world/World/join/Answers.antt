use Rattle.std.proofs.Common.{◌≡◌, ◌+◌, [], ◌∙◌, ap, sym, true, false, length, Some, None, ℤ, rules}
use Rattle.std.specs.Prelude.{Option}
use Rattle.sts_code.specs.declared.limits.TheConstants.{MAX_OPERANDS}
use Rattle.sts_model.specs.Effect.{joined}
use Rattle.sts_model.specs.Local.{goes}
use Rattle.sts_model.specs.World.{World, task_at, scope_at}
use Rattle.sts_model.specs.declared.event.Verdict.TheVariants as verdict
use Rattle.sts_model.specs.declared.record.Frame.{Frame}
use Rattle.sts_world.proofs.Outcomes.{room_left, join_expires, join_decides, join_waits}
use Rattle.sts_world.proofs.Verdicts.{ok_pushes, failed_pushes}
use Rattle.sts_world.proofs.world.World.join.Goals as goal

pub returns-then-is_expired : goal.returns-then-is_expired
returns-then-is_expired c =
    let expired : true ≡ (scope_at c.args.self.now c.args.s).expired = cc in
    join_expires c.args.self.now c.joined.new.self c.args.t c.args.s c.args.failed c.args.timeout c.args.interrupted
    (task_at c.args.self.now c.args.t).frame expired c.joined.ensures

pub returns-in-Ok-None : goal.returns-in-Ok-None
returns-in-Ok-None c =
    let w : World = c.args.self.now in
    let running : false ≡ (scope_at w c.args.s).expired = cc in
    join_decides w c.joined-in-Ok-None.new.self c.args.t c.args.s c.args.failed c.args.timeout c.args.interrupted
    (task_at c.args.self.now c.args.t).frame (verdict.Ok None) running (sym c.if-has_result.true ∙ c.has_result.ensures)
    (ap (λ (o : Option ℤ). verdict.Ok o) (sym c.in-Ok-None.field-0-is) ∙ c.in-Ok-None.ensures) (c.joined-in-Ok-None.ensures ∙ ap
    (λ (g : Frame). joined w c.args.t c.args.s (goes (task_at w c.args.t).frame (g.pc + 1) 0 []))
    (c.frame.ensures ∙ ap (λ (v : World). (task_at v c.args.t).frame) c.self.view_is))

pub returns-in-Ok-Some : goal.returns-in-Ok-Some
returns-in-Ok-Some c =
    let w : World = c.args.self.now in
    let running : false ≡ (scope_at w c.args.s).expired = cc in
    join_decides w c.joined_with.new.self c.args.t c.args.s c.args.failed c.args.timeout c.args.interrupted
    (task_at c.args.self.now c.args.t).frame (verdict.Ok (Some c.in-Ok-Some.value)) running
    (sym c.if-has_result.true ∙ c.has_result.ensures)
    (ap (λ (o : Option ℤ). verdict.Ok o) (sym c.in-Ok-Some.field-0-is) ∙ c.in-Ok-Some.ensures) (search rules)

pub returns-in-Failed : goal.returns-in-Failed
returns-in-Failed c =
    let w : World = c.args.self.now in
    let running : false ≡ (scope_at w c.args.s).expired = cc in
    join_decides w c.joined_with-in-Failed.new.self c.args.t c.args.s c.args.failed c.args.timeout c.args.interrupted
    (task_at c.args.self.now c.args.t).frame (verdict.Failed c.in-Failed.code) running (sym c.if-has_result.true ∙ c.has_result.ensures)
    c.in-Failed.ensures (search rules)

pub returns-else-has_result : goal.returns-else-has_result
returns-else-has_result c =
    let w : World = c.args.self.now in
    let running : false ≡ (scope_at w c.args.s).expired = cc in
    join_waits w c.attempted.new.self c.args.t c.args.s c.args.failed c.args.timeout c.args.interrupted
    (task_at c.args.self.now c.args.t).frame running (sym c.if-has_result.false ∙ c.has_result.ensures) c.attempted.ensures

pub joined_with-requires-clause-room : goal.joined_with-requires-clause-room
joined_with-requires-clause-room c =
    room_left (length (task_at c.args.self.now c.args.t).frame.operands) MAX_OPERANDS _ c.requires.room
    (ok_pushes _ _ _ c.in-Ok-Some.value (sym c.in-Ok-Some.ensures ∙ ap verdict.Ok c.in-Ok-Some.field-0-is))

pub joined_with-requires-in-Failed-clause-room : goal.joined_with-requires-in-Failed-clause-room
joined_with-requires-in-Failed-clause-room c =
    room_left (length (task_at c.args.self.now c.args.t).frame.operands) MAX_OPERANDS _ c.requires.room
    (failed_pushes _ _ _ c.in-Failed.code (sym c.in-Failed.ensures))
