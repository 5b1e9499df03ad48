use Rattle.look_views.proofs.scopes.brief.Goals as goal

pub returns : goal.returns
returns c =
    let made = c.with_text.ensures _ _ c.object_of-brief.ensures c.joiner_text.ensures in
    rw (
      c.is_cancelled.ensures,
      c.is_expired.ensures,
      c.can_expire.ensures,
      c.owner.ensures,
      c.phase_word.ensures,
      c.phase.ensures,
      c.is_timed.ensures,
      c.joiner.ensures,
    ) at made
