use Rattle.std.proofs.Common.{◌++◌, ◌∙◌, ap, ap₂}
use Rattle.std.proofs.lemmas.Result.{on_ok_weaker}
use Rattle.std.specs.String.{string_bytes}
use Rattle.sts_code.specs.Program.{Program}
use Rattle.sts_model.specs.World.{World}
use Rattle.laws_words.proofs.AppendLemmas.{three_said}
use Rattle.look_lines.specs.Lines as lines_def
use Rattle.look_lines.proofs.view.LinesView.stand_lines.Goals as goal

pub returns : goal.returns
returns g c =
    let m = c.args.watch.now in
    let wanted = c.args.self.now.wanted in
    let tasks = λ (p : Program) (v : World). lines_def.task_lines (g.N.Naming.names c.args.self.now.naming.now) p wanted v v.tasks 0 in
    let scopes = λ (v : World). lines_def.scope_lines (g.N.Naming.names c.args.self.now.naming.now) wanted v v.scopes 0 in
    let records = c.records-records.ensures ∙ c.world-world.ensures in
    let first = c.in_ok-task_lines.ensures ∙ ap₂ (λ p v. string_bytes c.args.out.now ++ tasks p v) c.program.ensures c.world-world.ensures in
    let second = c.in_ok-scope_lines.ensures ∙ ap (λ v. string_bytes c.task_lines.new.out ++ scopes v) records in
    on_ok_weaker c.others.result
    (λ h. three_said (tasks m.program m.last) (scopes m.last) (lines_def.others wanted m.last) (string_bytes c.args.out.now) _ _ _ first second
    (h ∙ ap (λ v. string_bytes c.scope_lines.new.out ++ lines_def.others wanted v) records)) c.others.ensures
