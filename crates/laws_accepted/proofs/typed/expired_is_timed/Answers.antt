use Rattle.laws_accepted.proofs.TimelyLemmas as laws
use Rattle.laws_accepted.proofs.typed.expired_is_timed.Goals as goal

pub returns : goal.returns
returns c = laws.expired_is_timed
