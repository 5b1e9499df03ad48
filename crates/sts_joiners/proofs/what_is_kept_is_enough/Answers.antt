use Rattle.sts_joiners.proofs.TellLemmas as tells
use Rattle.sts_joiners.proofs.what_is_kept_is_enough.Goals as goal

pub returns : goal.returns
returns c joiner ends end subtasks = tells.is_enough joiner ends end subtasks
