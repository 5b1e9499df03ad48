-- The structure list, entry by entry.
use Rattle.std.proofs.Common.{◌≡◌, ℕ, suc, ◌+◌, ◌<◌, List, ◌∷◌, ◌∙◌, ap, arith, length, get_or, drop, cond, is_some, drop-cons}
use Rattle.sts_model.specs.declared.record.Entry.{Entry}
use Rattle.sts_model.specs.declared.record.Entry.TheVariants as entry
use Rattle.laws_calls.specs.Tasks.{births_in, scope_of_entry}

split : (es : List Entry) (i : ℕ) (d : Entry) → i < length es → drop i es ≡ get_or es i d ∷ drop (i + 1) es
split es i d less = let next : suc i ≡ i + 1 = omega arith in drop-cons es i d less ∙ ap (λ n. get_or es i d ∷ drop n es) next

-- one entry more
pub count_more : (es : List Entry) (i : ℕ) (d : Entry) → i < length es → length (births_in (drop i es)) ≡ cond (is_some (scope_of_entry (get_or es i d))) 1 0 + length (births_in (drop (i + 1) es))
count_more es i d less = ap (λ xs. length (births_in xs)) (split es i d less) ∙ by (get_or es i d)
  where
    by : (x : Entry) → length (births_in (x ∷ drop (i + 1) es)) ≡ cond {A = ℕ} (is_some (scope_of_entry x)) 1 0 + length (births_in (drop (i + 1) es))
    by (entry.Scope s) = omega arith
    by (entry.Binding k v) = omega arith
