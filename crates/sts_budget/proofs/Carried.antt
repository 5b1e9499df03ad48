-- The sums of a place are handed on to the next place.
use Rattle.std.proofs.Common.{◌≡◌, ℕ, zero, suc, ◌+◌, ◌<◌, max, min, List, [], length, set, get_or}
use Rattle.std.proofs.Common.{sym, ap, ◌∙◌, subst, arith, get_or-set_same, get_or-set_other, length-set}
use Rattle.sts_budget.specs.Table.{read, IsCarried, IsRaisedAt}

pub carried : (n pc own : ℕ) (before : List (List ℕ)) (row next : List ℕ) → pc + 1 < length before → row ≡ get_or before pc [] → ((d : ℕ) → d < n → get_or next d 0 ≡ max (get_or (get_or before (pc + 1) []) d 0) (get_or row d 0 + own)) → IsCarried n pc own before (set before (pc + 1) next)
carried n pc own before row next within is at = record {
  long = length-set before (pc + 1) next;
  raised = λ d lt. (ap (λ (x : List ℕ). get_or x d 0) (get_or-set_same before (pc + 1) next [] within) ∙ at d lt ∙ ap (λ (x : List ℕ). max (read before (pc + 1) d) (get_or x d 0 + own)) is);
  same = λ q d ne. ap (λ (x : List ℕ). get_or x d 0) (get_or-set_other before (pc + 1) q next [] ne);
}

-- one step more, within the limit
pub carried_step : (pc most : ℕ) (values : List ℕ) (before after : List (List ℕ)) (row : List ℕ) → pc + 1 < length before → row ≡ get_or before pc [] → most < 4294967296 → get_or values 0 0 ≡ min (get_or row 0 0 + 1) 18446744073709551615 → IsRaisedAt values 0 most (pc + 1) before after → IsCarried 1 pc 1 before after
carried_step pc most values before after row within is few value (next, h) = subst (IsCarried 1 pc 1 before) (sym h.0) (carried 1 pc 1 before row next within is at)
  where
    here : get_or values 0 0 ≡ get_or row 0 0 + 1
    here = let s = h.1.small 0 (omega arith) in omega (arith, s, few, value)

    at : (d : ℕ) → d < 1 → get_or next d 0 ≡ max (get_or (get_or before (pc + 1) []) d 0) (get_or row d 0 + 1)
    at zero lt = h.1.higher 0 (omega arith) ∙ ap (max (get_or (get_or before (pc + 1) []) 0 0)) here
    at (suc d) lt = absurd (omega arith)
