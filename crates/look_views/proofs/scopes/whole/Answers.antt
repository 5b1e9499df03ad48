use Rattle.look_views.proofs.scopes.whole.Goals as goal

pub returns : goal.returns
returns c =
    let told = rw c.completions.ensures at c.told_ends-told.ensures in
    c.with_list.ensures _ _ c.brief.ensures told
