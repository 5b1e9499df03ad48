use Rattle.look_views.proofs.Floats.{event_view_plain}
use Rattle.look_views.proofs.views.JsonViewsView.say_event.Goals as goal

pub returns : goal.returns
returns c =
    let views = c.args.self.now in
    c.push_made.ensures _ c.event_view-value.ensures (event_view_plain views.names.now views.wanted c.args.applied c.args.watch.now)
