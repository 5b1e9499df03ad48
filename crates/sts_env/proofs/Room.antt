-- The bindings of an environment are no more than the records that exist.
use Rattle.std.proofs.Common.{◌≡◌, ℕ, zero, suc, ◌+◌, ◌≤◌, ◌<◌, List, length, get_or, set, Option, Some, None, is_some, count_by, cond, refl, arith}
use Rattle.std.proofs.lemmas.List.{get_or-set_other, get_or_past}
use Rattle.std.proofs.lemmas.List.Sums.{sum_by-set}
use Rattle.sts_env.specs.Environments.{AreWhole}
use Rattle.sts_env.specs.declared.env.Record.{Record}
use Rattle.sts_env.proofs.WalkLemmas.{longer, same}

-- one slot is emptied
emptied : (slots : List (Option Record)) (k : ℕ) (r : Record) → get_or slots k None ≡ Some r → count_by is_some (set slots k None) + 1 ≡ count_by is_some slots
emptied slots k r is =
    let inside : k < length slots = grind (arith, get_or_past) in
    let s = sum_by-set (λ (o : Option Record). cond (is_some o) 1 0) slots k None None inside in
    let one : ℕ = 1 in
    let t : cond (is_some (get_or slots k None)) one 0 ≡ one = rw is refl in
    omega (arith, s, t)

-- a chain of n records needs n records that exist
pub within : (slots : List (Option Record)) (n : ℕ) (front : Option ℕ) → AreWhole (λ k. get_or slots k None) n front → n ≤ count_by is_some slots
within slots zero front w = omega arith
within slots (suc n) front (k, r, e, is, size, rest) =
    let inside : k < length slots = grind (arith, get_or_past) in
    let apart = longer (λ j. get_or slots j None) k r is n r.rest.front (omega (arith, size)) rest in
    let less = same (λ j. get_or slots j None) (λ j. get_or (set slots k None) j None) k (λ j other. get_or-set_other slots k j None None other) n r.rest.front rest apart in
    omega (arith, within (set slots k None) n r.rest.front less.whole, emptied slots k r is)
