use Rattle.sts_records.proofs.Keys.{found}
use Rattle.sts_records.proofs.places.Places.record.Goals as goal
use Rattle.laws_words.proofs.OptionLemmas.{not_none}

pub body_in-requires : goal.body_in-requires
body_in-requires g c =
    let cell = c.index.result.now in
    let f = found c.self.inside.cells.items c.args.key cell (rw (← c.self.view_is) at c.requires) c.index.ensures in
    not_none cell.body f.entry.body f.body
