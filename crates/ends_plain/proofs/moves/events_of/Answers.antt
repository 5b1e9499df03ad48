use Rattle.ends_plain.proofs.EventLemmas.{all_three}
use Rattle.ends_plain.proofs.moves.events_of.Goals as goal

pub returns-in_ok-extend_from_slice-in-Some-2 : goal.returns-in_ok-extend_from_slice-in-Some-2
returns-in_ok-extend_from_slice-in-Some-2 c =
    let w = c.in-Some.world.now in
    rw (
      c.in-Some.ensures.running,
      c.in_ok-extend_from_slice-in-Some-2.ensures.items,
      c.in_ok-extend_from_slice-in-Some.ensures.items,
      c.as_slice.ensures.value,
      c.as_slice-in-Some.ensures.value,
    )
    (all_three c.args.setting.now c.args.config.now.left w _ _ _ c.in_ok-events-in-Some.ensures c.in_ok-more-in-Some.ensures
    c.in_ok-last-in-Some.ensures)
