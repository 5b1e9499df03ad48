use Rattle.ends_table.proofs.MissingLemmas.{on_ok}
use Rattle.ends_table.proofs.around.Around.scoped.Goals as goal

pub returns : goal.returns
returns c = on_ok c.leads_by.result c.leads_by.ensures c.in_ok-frame.ensures
