use Rattle.std.proofs.Common.{◌≡◌, ◌+◌, ◌<◌, ◌^◌, length, Some, OnOk, Option, subst, sym, ap, ◌∙◌, arith}
use Rattle.sts_code.specs.declared.instr.Instr.{Instr}
use Rattle.sts_model.specs.Run as run
use Rattle.sts_model.specs.World.{World, code, instr_at, task_at}
use Rattle.sts_model.specs.declared.record.Frame.{Frame}
use Rattle.sts_model.proofs.FineLemmas.{fine}
use Rattle.sts_plain.proofs.perform.act.Goals.{In-Some}
use Rattle.sts_plain.proofs.perform.act.Goals as goal

-- the frame that was read, and its instruction
frame : (c : In-Some) → c.frame.result.now ≡ (task_at c.args.world.now c.args.t).frame
frame c = c.frame.ensures ∙ ap (λ (v : World). (task_at v c.args.t).frame) c.records.ensures

next : (c : In-Some) → instr_at c.args.program.now (task_at c.args.world.now c.args.t).frame ≡ Some c.in-Some.instr
next c = ap (instr_at c.args.program.now) (sym (frame c)) ∙ sym c.in-Some.ensures.value

pub perform-requires : goal.perform-requires
perform-requires c =
    let path = (goal.at.perform-requires c).In-Some in record {
      born = c.requires.born;
      lives = c.requires.lives;
      at = next path;
      more = subst (λ (f : Frame). f.pc + 1 < 2 ^ 32) (frame path) (omega (arith, c.in-Some.ensures.within, c.in-Some.ensures.short));
      short = subst (λ (f : Frame). length (code c.args.program.now f) < 2 ^ 32) (frame path) (omega (arith, c.in-Some.ensures.short));
      fine = fine c.args.program.now c.args.world.now c.args.t c.in-Some.instr c.requires.fine (next path);
    }

pub returns-in-None-clause-ok : goal.returns-in-None-clause-ok
returns-in-None-clause-ok c =
    let p = c.args.program.now in
    let w = c.args.world.now in
    let frame = c.frame.ensures ∙ ap (λ (v : World). (task_at v c.args.t).frame) c.records.ensures in
    let none = ap (instr_at p) (sym frame) ∙ sym c.in-None.ensures.value in
    ap (run.perform p w c.args.t (task_at w c.args.t).frame) (sym none)

pub returns-in-Some-clause-ok : goal.returns-in-Some-clause-ok
returns-in-Some-clause-ok c =
    let w = c.args.world.now in
    let frame = (task_at w c.args.t).frame in
    let at = next (goal.at.returns-in-Some-clause-ok c).In-Some in
    subst (λ (o : Option Instr). OnOk c.perform.result (c.perform.new.world ≡ run.perform c.args.program.now w c.args.t frame o)) (sym at)
    c.perform.ensures.ok
