-- Cancels by a count.
use Rattle.std.proofs.Common.{◌≡◌, ℕ, zero, suc, ◌+◌, List, [], ◌∷◌, Bool, true, false, refl, sym, ◌∙◌, ap, arith, cond, count_by, Some, None, find, ◌++◌, ◌<◌, ◌≤◌, subst, zero-add}
use Rattle.std.specs.Option.{option_or}
use Rattle.std.proofs.lemmas.List.Folds.{find-append}
use Rattle.std.specs.Prelude.{nat_lt, nat_le}
use Rattle.std.specs.List.{list_any}
use Rattle.std.proofs.lemmas.Bool.{leb-false, leb-true}
use Rattle.std.proofs.lemmas.List.Sums.{sum_by-cons}
use Rattle.laws_words.proofs.BoolLemmas.{at_most_one}
use Rattle.laws_words.proofs.ListLemmas.{any_count, count-push}
use Rattle.sts_code.specs.declared.instr.Joiner.{Joiner}
use Rattle.sts_model.specs.declared.event.End.{End}
use Rattle.sts_code.specs.declared.instr.Joiner.TheVariants.{AllSucceed, AnySucceeds, AwaitOk, AwaitAll, Until}
use Rattle.sts_code.specs.declared.instr.Pred.TheVariants as pred
use Rattle.sts_model.specs.Joining.{cancels, is_success, is_failure, is_at_least}
use Rattle.laws_calls.specs.Triggers.{CancelsByCount, LastCounts, LastIsFound, StopsAtLimit, is_trigger, limit, triggers}

one_or_more : (n : ℕ) → nat_lt 0 n ≡ nat_le 1 n
one_or_more zero = refl
one_or_more (suc n) = refl

any_one : {X : Type 0} (q : X → Bool) (xs : List X) → list_any q xs ≡ nat_le 1 (count_by q xs)
any_one q xs = any_count q xs ∙ one_or_more (count_by q xs)

none : {X : Type 0} (xs : List X) → false ≡ nat_le 1 (count_by (λ (x : X). false) xs)
none [] = refl
none {X} (x ∷ xs) = none xs ∙ ap (λ m. nat_le 1 m) (sym (zero-add (count_by (λ (y : X). false) xs)) ∙ sym (sum_by-cons (λ (y : X). cond false 1 0) x xs))

pub cancels_by_count : CancelsByCount
cancels_by_count AllSucceed ends = any_one is_failure ends
cancels_by_count AwaitOk ends = any_one is_failure ends
cancels_by_count AnySucceeds ends = any_one is_success ends
cancels_by_count AwaitAll ends = none ends
cancels_by_count (Until (pred.Failed n)) ends = refl
cancels_by_count (Until (pred.Success n)) ends = refl
cancels_by_count (Until (pred.AtLeast v)) ends = any_one (is_at_least v) ends

-- ---- one end more

pub going_on : (j : Joiner) (ends : List End) → cancels j ends ≡ false → triggers j ends < limit j
going_on j ends going = leb-false (limit j) (triggers j ends) (sym (cancels_by_count j ends) ∙ going)

pub stops_at_limit : StopsAtLimit
stops_at_limit j ends e going =
    let below = going_on j ends going in
    let more = count-push (is_trigger j) ends e in
    let one = at_most_one (is_trigger j e) in
    omega (arith, below, more, one)

counts : (b : Bool) (n m : ℕ) → n < m → m ≤ n + cond b 1 0 → (b ≡ true) × (n + cond b 1 0 ≡ m)
counts true n m below reaches = (refl, omega (arith, below, reaches))
counts false n m below reaches = absurd (omega (arith, below, reaches))

pub last_counts : LastCounts
last_counts j ends e going stops =
    let more = count-push (is_trigger j) ends e in
    let reaches : limit j ≤ triggers j (ends ++ e ∷ []) = leb-true (limit j) (triggers j (ends ++ e ∷ [])) (sym (cancels_by_count j (ends ++ e ∷ [])) ∙ stops) in
    let p = counts (is_trigger j e) (triggers j ends) (limit j) (going_on j ends going) (subst (λ n. limit j ≤ n) more reaches) in
    (p.0, more ∙ p.1)

none_found : {X : Type 0} (q : X → Bool) (xs : List X) → count_by q xs < 1 → find q xs ≡ None
none_found q [] few = refl
none_found {X} q (x ∷ xs) few = by (q x) (λ h. none_found q xs h) (subst (λ n. n < 1) (sum_by-cons (λ y. cond (q y) 1 0) x xs) few)
  where
    by : (b : Bool) → (count_by q xs < 1 → find q xs ≡ None) → cond b 1 0 + count_by q xs < 1 → cond b (Some x) (find q xs) ≡ None
    by true later h = absurd (omega (arith, h))
    by false later h = later (omega (arith, h))

pub last_is_found : LastIsFound
last_is_found j ends e one going is_one =
    let q = is_trigger j in
    let none = none_found q ends (subst (λ n. triggers j ends < n) one (going_on j ends going)) in
    find-append q ends (e ∷ []) ∙ ap (λ o. option_or o (find q (e ∷ []))) none ∙ ap (λ b. cond b (Some e) None) is_one
