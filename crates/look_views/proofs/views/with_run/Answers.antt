use Rattle.std.proofs.Common.{ℕ, ap, ap₂, ◌∙◌}
use Rattle.std.proofs.lemmas.Result.{IfOk-weaker}
use Rattle.sts_code.specs.Program.{Program}
use Rattle.sts_plain.specs.declared.misstep.PlainState.{PlainState}
use Rattle.look_views.specs.Views as def
use Rattle.look_views.proofs.views.with_run.Goals as goal

pub returns : goal.returns
returns c ms value =
    let text = c.args.names.now in
    let at_program = ap (λ (p : Program). def.run text p c.state.result c.steps.result) c.program.ensures in
    let stands = ap₂ (λ (s : PlainState) (n : ℕ). def.run text c.args.watch.now.program s n) c.state.ensures c.steps.ensures in
    c.with_member.ensures _ _ value (IfOk-weaker c.run-state.result _ _ (λ v h. h ∙ at_program ∙ stands) c.run-state.ensures)
