use Rattle.ends_pool.proofs.ReportLemmas as laws
use Rattle.ends_pool.proofs.laws.reports_are_ends.Goals as goal

pub returns : goal.returns
returns c = laws.reports_are_ends
