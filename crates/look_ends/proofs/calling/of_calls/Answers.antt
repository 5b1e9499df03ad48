use Rattle.std.proofs.lemmas.Result.{IfOk-weaker}
use Rattle.look_ends.proofs.ListingLemmas.{calls_of}
use Rattle.look_ends.proofs.calling.of_calls.Goals as goal

pub returns : goal.returns
returns g c =
    let calls = c.in_ok-calls.ensures in
    IfOk-weaker c.shown.result _ _
    (λ l h. calls_of (g.F.EndsForm.shows c.args.form.now) c.args.names.now c.args.setting.now c.args.number c.args.is_refused
    c.in_ok-calls.calls l calls.sound calls.unsearched c.requires h)
    c.shown.ensures
