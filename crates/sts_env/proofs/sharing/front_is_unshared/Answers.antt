use Rattle.sts_env.proofs.UnsharedLemmas as unshared
use Rattle.sts_env.proofs.sharing.front_is_unshared.Goals as goal

pub returns : goal.returns
returns c = unshared.front_is_unshared
