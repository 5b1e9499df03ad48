-- Steps over which missing states are gathered.
use Rattle.std.proofs.Common.{◌≡◌, ℕ, ◌+◌, ◌≤◌, ◌<◌, List, Bool, true, false, pos, refl, sym, subst, arith, get_or, length, Result, Ok, Err}
use Rattle.std.specs.Result.{IsOk, OnOk}
use Rattle.std.specs.List.{AllWithin}
use Rattle.std.specs.Prelude.{nat_eq}
use Rattle.std.proofs.lemmas.Bool.Decides.{nat_tests}
use Rattle.std.proofs.lemmas.Result.{on_ok_weaker}
use Rattle.std.proofs.lemmas.List.{get_or_default}
use Rattle.std.proofs.lemmas.List.Elements.{AllWithin-more}
use Rattle.sts_model.specs.declared.event.End.{End}
use Rattle.sts_model.specs.declared.event.End.TheVariants.{Success}
use Rattle.laws_calls.specs.declared.table.Way.{Way}

-- what a step shows that went well
pub by_ok : {T E P : Type 0} (r : Result T E) → IsOk r → OnOk r P → P
by_ok (Ok x) ok h = h
by_ok (Err e) ok h = cc

-- a step shows what follows from what its last part shows
pub on_ok : {T E P Q : Type 0} (r : Result T E) → OnOk r P → (P → Q) → OnOk r Q
on_ok r h f = on_ok_weaker r f h

-- one element more
pub one_more : {X : Type 0} (P : X → Type 0) (xs : List X) (i : ℕ) (d : X) → i < length xs → AllWithin P xs 0 i → P (get_or xs i d) → AllWithin P xs 0 (i + 1)
one_more P xs i d less before here = AllWithin-more P xs 0 i before (λ e. subst P (sym (get_or_default xs i e d less)) here)

-- one end more of a part: its step is noted, and no state is missing after that
pub way_more : {T E Before After : Type 0} (P : End → Type 0) (ways : List Way) (i : ℕ) (step : Result T E) → i < length ways → (Before → AllWithin (λ (way : Way). P way.end) ways 0 i) → (After → Before) → (After → IsOk step) → OnOk step (P (get_or ways i (record { end = Success (pos 0) })).end) → After → AllWithin (λ (way : Way). P way.end) ways 0 (i + 1)
way_more P ways i step less so_far before ok here none =
    one_more (λ (way : Way). P way.end) ways i (record { end = Success (pos 0) }) less (so_far (before none)) (by_ok step (ok none) here)

-- one number more
pub number_more : (P : ℕ → Type 0) (low i : ℕ) → ((n : ℕ) → low ≤ n → n < i → P n) → P i → (n : ℕ) → low ≤ n → n < i + 1 → P n
number_more P low i before here n least less = by (nat_eq n i) refl
  where
    by : (b : Bool) → nat_eq n i ≡ b → P n
    by true e = subst P (let same : i ≡ n = grind (arith, nat_tests) in same) here
    by false e = before n least (grind (arith, nat_tests))
