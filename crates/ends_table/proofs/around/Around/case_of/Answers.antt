use Rattle.std.proofs.Common.{Bool, true, false}
use Rattle.ends_table.specs.Led.{KindLeads}
use Rattle.ends_table.proofs.around.Around.case_of.Goals as goal

by_two : (P : Bool → Type 0) → P true → P false → (b : Bool) → P b
by_two P one other true = one
by_two P one other false = other

pub returns : goal.returns
returns c =
    let k = c.args.known in
    by_two (λ (counting : Bool). KindLeads c.args.self.now.states.now c.args.self.now.own.now k.place k.seen.now k.i k.part.now
    c.args.succeeds counting c.args.to) c.in_ok-case_by.ensures c.in_ok-case_by-2.ensures
