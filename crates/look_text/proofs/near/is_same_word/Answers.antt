use Rattle.look_text.proofs.NearLemmas.{same_decided}
use Rattle.look_text.proofs.near.is_same_word.Goals as goal

pub returns : goal.returns
returns c = same_decided c.eq_ignore_ascii_case.result c.args.word.now c.args.known.now c.eq_ignore_ascii_case.ensures.test
