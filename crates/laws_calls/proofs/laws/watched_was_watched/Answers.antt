use Rattle.laws_calls.proofs.WatchedLemmas as laws
use Rattle.laws_calls.proofs.laws.watched_was_watched.Goals as goal

pub returns : goal.returns
returns c = laws.watched_was_watched
