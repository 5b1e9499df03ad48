use Rattle.sts_store.proofs.ViewingLemmas.{words}
use Rattle.sts_store.proofs.agreement.words_agree.Goals as goal

pub returns : goal.returns
returns g c = words
