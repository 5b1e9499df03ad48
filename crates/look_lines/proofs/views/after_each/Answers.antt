use Rattle.std.proofs.Common.{◌++◌, [], ◌∙◌, ap, ap₂}
use Rattle.sts_output.specs.Output as out
use Rattle.sts_plain.specs.Seen.{shown}
use Rattle.look_lines.specs.Views as def
use Rattle.look_lines.specs.Watched.{Watched, watched}
use Rattle.look_lines.proofs.views.after_each.Goals as goal

pub returns : goal.returns
returns g c =
    let v = g.V.View.writes c.args.view.now in
    let es = c.args.run.events.now in
    let start = c.in_ok-watch.ensures in
    let stands = c.in_ok-say_events.ensures.stands ∙ ap (λ (w : Watched). watched w.program es) start in
    let first = c.in_ok-say_state.ensures ∙ ap₂ (λ xs w. xs ++ v.state 0 w) c.new-text.ensures.bytes start in
    let written = c.in_ok-say_events.ensures.written ∙ ap₂ (λ xs (w : Watched). xs ++ def.views_from v w.program [] es) first start in
    let status = c.state_status.ensures ∙ ap out.state_status (c.state.ensures ∙ ap (λ (w : Watched). shown w.state) stands) in
    c.of.ensures ∙ ap₂ (λ bytes s. record { bytes = bytes; status = s }) written status
