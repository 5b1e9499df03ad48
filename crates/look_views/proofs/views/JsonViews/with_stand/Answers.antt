use Rattle.look_views.proofs.views.JsonViews.with_stand.Goals as goal

pub returns-then-wanted : goal.returns-then-wanted
returns-then-wanted c ms value = rw c.if-wanted.true (c.with_living.ensures _ value)

pub returns-else-wanted : goal.returns-else-wanted
returns-else-wanted c ms value = rw c.if-wanted.false (c.with_whole.ensures _ value)
