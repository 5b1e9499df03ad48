use Rattle.std.proofs.Common.{List, subst}
use Rattle.laws_calls.specs.declared.table.Own.{Own}
use Rattle.laws_calls.specs.Tasks.{Among}
use Rattle.ends_table.proofs.check.begins.Goals as goal

pub returns : goal.returns
returns c = λ yes. subst (λ (own : Own). Among c.args.row.now.states own) c.in_ok-first.ensures
    (subst (λ (states : List Own). Among states c.in_ok-first.first) c.as_slice.ensures (c.is_among.ensures yes))
