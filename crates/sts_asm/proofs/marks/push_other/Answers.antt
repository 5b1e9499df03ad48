use Rattle.std.proofs.lemmas.Map.Text.{btree_map_updates_str}
use Rattle.sts_asm.proofs.marks.push_other.Goals as goal

pub returns-clause-map : goal.returns-clause-map
returns-clause-map c = btree_map_updates_str c.args.name.now c.args.others.now c.insert.new.self _ c.in_ok-insert.ensures.updates
