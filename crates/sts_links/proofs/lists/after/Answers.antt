use Rattle.sts_links.proofs.ChainLemmas.{after_in}
use Rattle.sts_links.proofs.lists.after.Goals as goal

pub returns-clause-key : goal.returns-clause-key
returns-clause-key g c list front back is = after_in _ list front c.args.key back _ is c.link.ensures
