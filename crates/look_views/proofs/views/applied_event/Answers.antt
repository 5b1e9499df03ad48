use Rattle.look_views.proofs.views.applied_event.Goals as goal

pub returns : goal.returns
returns c = c.with_text.ensures _ _ c.object_of-value.ensures c.event_string.ensures
