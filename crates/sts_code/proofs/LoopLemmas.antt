-- The ends of loops, and how one pass finds them.
use Rattle.std.proofs.Common.{◌≡◌, ℕ, suc, zero, ◌+◌, ◌-◌, ◌<◌, ◌≤◌, List, length, drop, count_by, cond, ap, sym, ◌∙◌, Bool, true, false, Option, Some, None}
use Rattle.std.proofs.Common.{find, arith, refl, slice_range, slice_index_or}
use mir.Val.{bool_byte}
use Rattle.std.specs.List.{range_with_len}
use Rattle.std.proofs.lemmas.Bool.Decides.{nat_tests}
use Rattle.std.proofs.lemmas.List.{get_or-drop, length-drop}
use Rattle.std.proofs.lemmas.List.Sums.{sum_by_more}
use Rattle.sts_code.specs.declared.instr.Instr.{Instr}
use Rattle.sts_code.specs.Loops.{match_of, is_at, is_balanced}

-- if something is found in a range of numbers, the range is not empty
find_some : (test : ℕ → Bool) (a n m : ℕ) → find test (range_with_len a n) ≡ Some m → 0 < n
find_some test a zero m e = cc
find_some test a (suc n) m e = omega arith

pub match_of_bound : (code : List Instr) (at m : ℕ) → match_of code at ≡ Some m → at + 1 < length code
match_of_bound code at m e =
    let h = find_some (λ q. is_balanced (slice_range code at (q + 1))) (at + 1) (length code - (at + 1)) m e in omega arith

-- a match at a place is that place
pub at_match : (o : Option ℕ) (q : ℕ) → is_at o q ≡ true → o ≡ Some q
at_match None q e = cc
at_match (Some m) q e = let same : m ≡ q = grind (arith, nat_tests) in ap Some same

pub as_count : (b : Bool) → bool_byte b ≡ cond b 1 0
as_count true = refl
as_count false = refl

-- one instruction more is counted
pub counted_more : (test : Instr → Bool) (code : List Instr) (at q : ℕ) (d : Instr) → at ≤ q → q < length code → count_by test (slice_range code at (q + 1)) ≡ count_by test (slice_range code at q) + cond (test (slice_index_or code q d)) 1 0
counted_more test code at q d h k =
    let one : q + 1 - at ≡ (q - at) + 1 = omega arith in
    let there : at + (q - at) ≡ q = omega arith in
    let more = sum_by_more (λ i. cond (test i) 1 0) (drop at code) (q - at) d (simp length-drop (omega arith)) in
    rw one (rw (get_or-drop at code (q - at) d, there) at more)

-- the count so far and the next instruction's are the count up to it
pub counts_on : (test : Instr → Bool) (code : List Instr) (at q : ℕ) (d : Instr) (so_far next : ℕ) (b : Bool) → at < q → q < length code → so_far ≡ count_by test (slice_range code at q) → next ≡ bool_byte b → b ≡ test (slice_index_or code q d) → so_far + next ≡ count_by test (slice_range code at (q + 1))
counts_on test code at q d so_far next b h k e f g = rw (e, f, as_count b, g) (sym (counted_more test code at q d (omega arith) k))

-- the first among the rest is found further on
pub find_next : (test : ℕ → Bool) (q n : ℕ) → q < n → test q ≡ false → find test (range_with_len q (n - q)) ≡ find test (range_with_len (q + 1) (n - (q + 1)))
find_next test q n h e =
    let one : n - q ≡ suc (n - (q + 1)) = omega arith in
    ap (λ m. find test (range_with_len q m)) one ∙ ap (λ b. cond b (Some q) (find test (range_with_len (q + 1) (n - (q + 1))))) e

pub find_here : (test : ℕ → Bool) (q n : ℕ) → q < n → test q ≡ true → find test (range_with_len q (n - q)) ≡ Some q
find_here test q n h e =
    let one : n - q ≡ suc (n - (q + 1)) = omega arith in
    ap (λ m. find test (range_with_len q m)) one ∙ ap (λ b. cond b (Some q) (find test (range_with_len (q + 1) (n - (q + 1))))) e
