-- The lemmas on states that fit, which the crates above cite.
pub use Rattle.laws_calls.proofs.CoverLemmas.{births_are_bounded, facts_after, tasks_are_covered}
pub use Rattle.laws_calls.proofs.Counts.{states_in, subs_count}
pub use Rattle.laws_calls.proofs.Frames.{blank_bounds}
pub use Rattle.laws_calls.proofs.Lists.{all_place, all_length, at_among, get_among, kept_way, no}
pub use Rattle.laws_calls.proofs.Moves.{held_slot}
pub use Rattle.laws_calls.proofs.Possible.{counts_most, pick_fits, never_unseen}
pub use Rattle.laws_calls.proofs.Turns.{Facts, births_has, listed_inside}
