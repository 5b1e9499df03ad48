use Rattle.std.proofs.Common.{rules}
use Rattle.ends_table.proofs.PlaceLemmas.{at_index_in}
use Rattle.ends_table.proofs.places.scope_at.Goals as goal

pub returns : goal.returns
returns c = at_index_in c.as_slice-scopes.result.now c.args.own.now.scopes c.args.place c.in_ok-i.i _ c.as_slice-scopes.ensures c.in_ok-i.ensures (search rules)
