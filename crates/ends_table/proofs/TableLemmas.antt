-- From the states of the rows to the table.
use Rattle.std.proofs.Common.{◌≡◌, [], ◌∷◌, get_or, inl, subst, refl}
use Rattle.std.specs.Prelude.{All}
use Rattle.sts_code.specs.Program.{Program}
use Rattle.laws_calls.specs.declared.table.Outside.{Outside}
use Rattle.laws_calls.specs.Tasks.{Among}
use Rattle.laws_calls.specs.declared.table.Own.{Own}
use Rattle.laws_calls.specs.Steps.{Table, IsTable}
use Rattle.laws_calls.specs.declared.table.Row.{Row}
use Rattle.ends_table.specs.Led.{IsLedAt, IsLedRow, IsRoot, IsClosed}
use Rattle.ends_picks.proofs.ListLemmas.{all_among}

pub is_table : (p : Program) (outside : Outside) (t : Table) (root : Row) → Among t root → IsRoot p root → All (IsLedRow p outside t) t → IsTable p outside t root
is_table p outside t root there is all =
    let at : (row : Row) (own : Own) → Among t row → Among row.states own → IsLedAt p outside t row own =
    λ row own a b. all_among (IsLedAt p outside t row) row.states own (all_among (IsLedRow p outside t) t row all a) b in
    record {
      listed = there;
      call = is.call;
      begins = is.begins;
      forks = λ row own x g place h seen a b i o free. (at row own a b _ i).forks x g place h seen refl o free;
      closed = λ row own next i a b is2 step. (at row own a b i is2).closed next step;
      ends = λ row own i e a b is2 ends. (at row own a b i is2).ends e ends;
    }

pub is_closed : (p : Program) (outside : Outside) (t : Table) (root : Row) → root ≡ get_or t 0 root → IsRoot p root → All (IsLedRow p outside t) t → IsClosed p outside t
is_closed p outside [] root at is all = tt
is_closed p outside (first ∷ rows) root at is all = is_table p outside (first ∷ rows) first (inl refl) (subst (λ r. IsRoot p r) at is) all
