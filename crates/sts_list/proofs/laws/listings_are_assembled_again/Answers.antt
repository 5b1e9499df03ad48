use Rattle.sts_list.proofs.RoundTrip.{assembled_again}
use Rattle.sts_list.proofs.laws.listings_are_assembled_again.Goals as goal

pub returns : goal.returns
returns c = assembled_again
