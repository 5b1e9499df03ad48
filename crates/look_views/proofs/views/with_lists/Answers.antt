use Rattle.look_views.proofs.views.with_lists.Goals as goal

pub returns : goal.returns
returns c ms scopes tasks value first second =
    c.with_list.ensures _ _ (c.with_list-value.ensures _ _ value first) second
