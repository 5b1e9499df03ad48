use Rattle.look_views.proofs.Floats.{state_view_plain}
use Rattle.look_views.proofs.views.JsonViewsView.say_state.Goals as goal

pub returns : goal.returns
returns c =
    let views = c.args.self.now in
    c.push_made.ensures _ c.state_view-value.ensures (state_view_plain views.names.now views.wanted c.args.number c.args.watch.now)
