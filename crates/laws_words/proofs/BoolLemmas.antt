-- Tests, and the numbers 1 and 0 that they choose.
use Rattle.std.proofs.Common.{◌≡◌, ℕ, ◌≤◌, Bool, true, false, ◌&&◌, not, cond, refl, arith}
use Rattle.std.proofs.lemmas.Bool.{not-false}

-- if two tests don't both hold and the first holds, the second doesn't
pub other_false : (a b : Bool) → (a && b) ≡ false → a ≡ true → b ≡ false
other_false true b e f = e
other_false false b e f = cc

pub other_true : (a b : Bool) → (a && not b) ≡ false → a ≡ true → b ≡ true
other_true a b e f = not-false b (other_false a (not b) e f)

pub at_most_one : (b : Bool) → cond {A = ℕ} b 1 0 ≤ 1
at_most_one true = omega arith
at_most_one false = omega arith

pub one_then : (a b : Bool) → (a ≡ true → b ≡ true) → cond {A = ℕ} a 1 0 ≤ cond b 1 0
one_then true true h = omega arith
one_then true false h = let never = h refl in cc
one_then false true h = omega arith
one_then false false h = omega arith
