use Rattle.look_ends.proofs.listing.of_all.Goals as goal

pub of_both-requires : goal.of_both-requires
of_both-requires g c = record {
  verdict = rw c.in_ok-exploration.ensures c.requires.verdict;
  calls = rw c.in_ok-exploration.ensures c.in_ok-calls.ensures.sound;
  called = rw c.in_ok-exploration.ensures c.in_ok-calls.ensures.complete;
}

pub returns : goal.returns
returns g c = rw c.in_ok-exploration.ensures at c.of_both.ensures
