use Rattle.std.proofs.lemmas.Result.{on_ok_weaker}
use Rattle.ends_plain.proofs.ListedLemmas.{ends_more}
use Rattle.ends_plain.proofs.sample.Sample.add.Goals as goal

pub returns-in_default : goal.returns-in_default
returns-in_default c g all here = on_ok_weaker c.push.result (λ pushed. rw pushed (ends_more g c.args.self.now.found.items c.args.one all here)) c.push.ensures

pub returns : goal.returns
returns c g all here = rw c.count.ensures all
