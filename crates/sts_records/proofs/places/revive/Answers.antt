use Rattle.std.proofs.Common.{arith, ◌∙◌, ap, not, ◌<◌, length}
use Rattle.sts_records.proofs.Keys.{revived}
use Rattle.sts_records.proofs.places.revive.Goals as goal

pub returns-clause-lays : goal.returns-clause-lays
returns-clause-lays g c is =
    let cells = c.args.cells.now.items in
    let above = c.if-key-len.false in
    let count = c.len.ensures in
    let less : c.args.key < length cells = omega (arith, above, count) in
    revived cells c.args.key c.args.birth c.index.result.now c.index_mut.result.now less c.index.ensures c.index_mut.ensures.value
    (c.is_none.ensures ∙ ap not c.if-is_none.false)
