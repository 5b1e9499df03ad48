use Rattle.std.proofs.Common.{◌∙◌, ap}
use Rattle.std.proofs.lemmas.Result.{IfOk-weaker}
use Rattle.serde_json.specs.Written.{has_float}
use Rattle.look_views.proofs.Floats.{trace_line_plain}
use Rattle.look_views.specs.Views as def
use Rattle.look_views.proofs.of_text.faulty_trace.Goals as goal

pub returns : goal.returns
returns c =
    let value = c.in_ok-value.ensures in
    IfOk-weaker c.faulty.result _ _
    (λ o h. (value.0, h ∙ ap def.faulty value.1))
    (c.faulty.ensures (ap has_float value.1 ∙ trace_line_plain c.args.error))
