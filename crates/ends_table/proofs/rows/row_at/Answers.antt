use Rattle.std.proofs.Common.{List, subst}
use Rattle.laws_calls.specs.declared.table.Held.TheVariants.{Lent}
use Rattle.laws_calls.specs.declared.table.Own.{Own}
use Rattle.laws_calls.specs.Tasks.{Among, begin}
use Rattle.ends_picks.proofs.ListLemmas.{among_at}
use Rattle.ends_table.proofs.rows.row_at.Goals as goal

pub returns-then-is_among_with : goal.returns-then-is_among_with
returns-then-is_among_with c =
    let row = c.in_ok-row.row.now in
    let at = c.in_ok-row.ensures.lookup in
    let begins = subst (λ (o : Own). Among c.as_slice.result.now (record o { left = row.births })) c.requires
    (c.is_among_with.ensures c.if-is_among_with.true) in
    record {
      there = among_at c.args.table.now c.args.place row at.3.0 at.1;
      call = c.same.ensures c.if-same.true;
      begins = subst (λ (xs : List Own). Among xs (begin Lent c.args.call.now row.births)) c.as_slice.ensures begins;
    }
