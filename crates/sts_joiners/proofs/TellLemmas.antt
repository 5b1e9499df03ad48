-- A joiner's counters are enough.
use Rattle.std.proofs.Common.{◌≡◌, ℕ, ◌+◌, List, [], ◌∷◌, ◌++◌, length, Bool, true, false, refl, sym, ◌∙◌, ap, cond, pos, arith}
use Rattle.std.proofs.lemmas.List.Folds.{find-append, list_any-append}
use Rattle.std.proofs.lemmas.List.Sums.{fold-append, sum_by-cons}
use Rattle.std.specs.Prelude.{find, count_by, is_some}
use Rattle.std.specs.List.{list_any}
use Rattle.laws_words.proofs.ListLemmas.{count-push}
use Rattle.sts_code.specs.declared.instr.Joiner.{Joiner}
use Rattle.sts_code.specs.declared.instr.Joiner.TheVariants.{AllSucceed, AnySucceeds, AwaitOk, AwaitAll, Until}
use Rattle.sts_code.specs.declared.instr.Pred.TheVariants as pred
use Rattle.sts_model.specs.declared.event.End.{End}
use Rattle.sts_model.specs.declared.event.End.TheVariants.{Success, Failed}
use Rattle.sts_model.specs.Joining.{is_success, is_failure, cancels, result_of, plus_value}
use Rattle.sts_model.specs.Told.{told, tell, reaches, result_told, cancels_told}
use Rattle.sts_joiners.specs.Enough.{IsEnough}
use Rattle.sts_joiners.specs.Tallied.{Tallied, StandsFor, ends_told, with_end}

any_found : (test : End → Bool) (xs : List End) → list_any test xs ≡ is_some (find test xs)
any_found test [] = refl
any_found test (x ∷ xs) = by (test x) refl (any_found test xs)
  where
    by : (b : Bool) → test x ≡ b → list_any test xs ≡ is_some (find test xs) → list_any test (x ∷ xs) ≡ is_some (find test (x ∷ xs))
    by true e next = rw e refl
    by false e next = rw e next

more : (j : Joiner) (ends : List End) (e : End) → told j (ends ++ e ∷ []) ≡ tell j (told j ends) e
more j ends e =
    rw (count-push is_success ends e, count-push is_failure ends e, find-append is_success ends (e ∷ []), find-append is_failure ends (e ∷ []), list_any-append (reaches j) ends (e ∷ []), fold-append plus_value (pos 0) ends (e ∷ [])) refl

either : (e : End) → cond (is_success e) 1 0 + cond (is_failure e) 1 0 ≡ 1
either (Success v) = refl
either (Failed c) = refl

count : (ends : List End) → count_by is_success ends + count_by is_failure ends ≡ length ends
count [] = refl
count (e ∷ ends) =
    let one : count_by is_success (e ∷ ends) ≡ cond (is_success e) 1 0 + count_by is_success ends = sum_by-cons (λ y. cond (is_success y) 1 0) e ends in
    let two : count_by is_failure (e ∷ ends) ≡ cond (is_failure e) 1 0 + count_by is_failure ends = sum_by-cons (λ y. cond (is_failure y) 1 0) e ends in
    let next = count ends in
    let here = either e in
    omega arith

result : (j : Joiner) (ends : List End) (n : ℕ) → result_of j ends n ≡ result_told j (told j ends) n
result AllSucceed ends n = refl
result _ ends n = refl

cancel : (j : Joiner) (ends : List End) → cancels j ends ≡ cancels_told j (told j ends)
cancel AllSucceed ends = any_found is_failure ends
cancel AwaitOk ends = any_found is_failure ends
cancel AnySucceeds ends = any_found is_success ends
cancel AwaitAll ends = refl
cancel (Until (pred.Failed n)) ends = refl
cancel (Until (pred.Success n)) ends = refl
cancel (Until (pred.AtLeast v)) ends = refl

pub is_enough : (j : Joiner) (ends : List End) (e : End) (n : ℕ) → IsEnough j ends e n
is_enough j ends e n = record { more = more j ends e; count = count ends; result = result j ends n; cancels = cancel j ends }

-- one end more is kept
pub stands_with : (tally : Tallied) (e : End) (ends : List End) → StandsFor tally ends → StandsFor (with_end tally e) (ends ++ e ∷ [])
stands_with tally e ends h = ap (λ t. tell tally.joiner t e) h ∙ sym (more tally.joiner ends e)

-- the counters with one more end cancel if the longer list does
pub asks_with : (tally : Tallied) (e : End) (ends : List End) → StandsFor tally ends → cancels_told tally.joiner (with_end tally e).told ≡ cancels tally.joiner (ends ++ e ∷ [])
asks_with tally e ends h = ap (cancels_told tally.joiner) (stands_with tally e ends h) ∙ sym (cancel tally.joiner (ends ++ e ∷ []))

-- one end more
pub one_told : (tally : Tallied) (end : End) → ends_told (with_end tally end) ≡ ends_told tally + 1
one_told tally (Success v) = omega arith
one_told tally (Failed c) = omega arith
