-- The match of a `times`: its place, and how loops nest.
use Rattle.std.proofs.Common.{◌≡◌, ℕ, zero, suc, ◌+◌, ◌-◌, ◌<◌, ◌≤◌, ◌⊎◌, inl, inr, List, length, take, drop, Bool, true, false, Some, find, count_by}
use Rattle.std.proofs.Common.{if◌then◌else◌, cond, refl, sym, ap, ◌∙◌, subst, arith, slice_range, eqb-true, eq-eqb}
use Rattle.std.specs.List.{range_with_len}
use Rattle.std.proofs.lemmas.Bool.{cases_lt}
use Rattle.std.proofs.lemmas.List.{get_or-drop, length-drop}
use Rattle.std.proofs.lemmas.List.Sums.{count_by_more_yes, count_by_more_no}
use Rattle.sts_code.specs.declared.instr.Instr.{Instr}
use Rattle.sts_code.specs.declared.instr.Instr.TheVariants.{Ret, Times, Next}
use Rattle.sts_code.specs.Loops.{match_of, is_times, is_next, is_balanced}
use Rattle.sts_code.specs.Program.{instr_at}

-- ---- what is found

pub record IsFirst (test : ℕ → Bool) (from m : ℕ) : Type 0 where
  pub after : from ≤ m
  pub here : test m ≡ true
  pub before : (k : ℕ) → from ≤ k → k < m → test k ≡ false

found_first : (test : ℕ → Bool) (a n m : ℕ) (b : Bool) → test a ≡ b → cond b (Some a) (find test (range_with_len (a + 1) n)) ≡ Some m → (find test (range_with_len (a + 1) n) ≡ Some m → IsFirst test (a + 1) m × (m < a + 1 + n)) → IsFirst test a m × (m < a + suc n)
found_first test a n m true is e rest =
    let same : a ≡ m = cc in
    (record { after = omega arith; here = subst (λ x. test x ≡ true) same is; before = λ k from below. absurd (omega arith) }, omega arith)
found_first test a n m false is e rest =
    let h = rest e in
    (record { after = omega (arith, h.0.after); here = h.0.here; before = λ k from below. at k from below (cases_lt a k) }, omega (arith, h.1))
  where
    at : (k : ℕ) → a ≤ k → k < m → (a < k) ⊎ (k ≤ a) → test k ≡ false
    at k from below (inl lt) = (rest e).0.before k (omega arith) below
    at k from below (inr le) = let same : a ≡ k = omega arith in subst (λ x. test x ≡ false) same is

first : (test : ℕ → Bool) (a n m : ℕ) → find test (range_with_len a n) ≡ Some m → IsFirst test a m × (m < a + n)
first test a zero m e = cc
first test a (suc n) m e = found_first test a n m (test a) refl e (λ h. first test (a + 1) n m h)

-- ---- counts

-- the numbers of `times` and of `next` before a place
abbrev pub times_before : List Instr → ℕ → ℕ
times_before code k = count_by is_times (take k code)

abbrev pub nexts_before : List Instr → ℕ → ℕ
nexts_before code k = count_by is_next (take k code)

abbrev pub one_if : Bool → ℕ
one_if b = if b then 1 else 0

-- one place more
count_more : (f : Instr → Bool) (code : List Instr) (k : ℕ) → k < length code → count_by f (take (k + 1) code) ≡ count_by f (take k code) + one_if (f (instr_at code k))
count_more f code k h = by (f (instr_at code k)) refl
  where
    by : (b : Bool) → f (instr_at code k) ≡ b → count_by f (take (k + 1) code) ≡ count_by f (take k code) + one_if b
    by true e = count_by_more_yes f code k Ret h e
    by false e = count_by_more_no f code k Ret h e ∙ omega arith

-- what is counted from p on
count_from : (f : Instr → Bool) (code : List Instr) (p k : ℕ) → p + k ≤ length code → count_by f (take (p + k) code) ≡ count_by f (take p code) + count_by f (take k (drop p code))
count_from f code p zero h = let z : p + 0 ≡ p = omega arith in omega (arith, ap (λ x. count_by f (take x code)) z)
count_from f code p (suc k) h =
    let e : p + suc k ≡ p + k + 1 = omega arith in
    let one = count_more f code (p + k) (omega arith) in
    let two = count_more f (drop p code) k (omega (arith, length-drop p code)) in
    let same : instr_at (drop p code) k ≡ instr_at code (p + k) = get_or-drop p code k Ret in
    let rest = count_from f code p k (omega arith) in
    let z : suc k ≡ k + 1 = omega arith in
    ap (λ x. count_by f (take x code)) e ∙ one ∙ (let w = ap (λ i. one_if (f i)) same in omega (arith, two, w, rest, ap (λ x. count_by f (take x (drop p code))) z))

-- ---- the match

-- from p up to k there are the same numbers of `next` and of `times`
abbrev pub IsEven : List Instr → ℕ → ℕ → Type 0
IsEven code p k = nexts_before code (k + 1) + times_before code p ≡ times_before code (k + 1) + nexts_before code p

-- m is the match of p
pub record Ends (code : List Instr) (p m : ℕ) : Type 0 where
  pub after : p < m
  pub within : m < length code
  pub here : IsEven code p m
  pub before : (k : ℕ) → p < k → k < m → IsEven code p k → ⊥

range_is : (code : List Instr) (p k : ℕ) → p ≤ k → k < length code → (f : Instr → Bool) → count_by f (take (k + 1) code) ≡ count_by f (take p code) + count_by f (slice_range code p (k + 1))
range_is code p k from within f =
    let z : p + (k + 1 - p) ≡ k + 1 = omega arith in
    ap (λ x. count_by f (take x code)) (sym z) ∙ count_from f code p (k + 1 - p) (omega arith)

to_even : (code : List Instr) (p k : ℕ) → p ≤ k → k < length code → is_balanced (slice_range code p (k + 1)) ≡ true → IsEven code p k
to_even code p k from within e =
    let t = range_is code p k from within is_times in
    let n = range_is code p k from within is_next in
    let same = eqb-true (count_by is_next (slice_range code p (k + 1))) (count_by is_times (slice_range code p (k + 1))) e in
    omega (arith, t, n, same)

from_even : (code : List Instr) (p k : ℕ) → p ≤ k → k < length code → is_balanced (slice_range code p (k + 1)) ≡ false → IsEven code p k → ⊥
from_even code p k from within e even =
    let t = range_is code p k from within is_times in
    let n = range_is code p k from within is_next in
    let same : count_by is_next (slice_range code p (k + 1)) ≡ count_by is_times (slice_range code p (k + 1)) = omega (arith, t, n, even) in
    let yes = eq-eqb _ _ same in
    cc

pub ends : (code : List Instr) (p m : ℕ) → match_of code p ≡ Some m → Ends code p m
ends code p m e =
    let h = first (λ q. is_balanced (slice_range code p (q + 1))) (p + 1) (length code - (p + 1)) m e in
    let inside : m < length code = omega (arith, h.1, h.0.after) in
    let past : p < m = omega (arith, h.0.after) in
    record {
      after = past;
      within = inside;
      here = to_even code p m (omega arith) inside h.0.here;
      before = λ k from below even. from_even code p k (omega arith) (omega arith) (h.0.before k (omega arith) below) even;
    }

-- one instruction is a `times`, a `next` or neither
one_of : (i : Instr) → (one_if (is_times i) ≤ 1) × (one_if (is_next i) ≤ 1) × (one_if (is_times i) + one_if (is_next i) ≤ 1)
one_of (Times n) = (omega arith, omega arith, omega arith)
one_of Next = (omega arith, omega arith, omega arith)
one_of _ = (omega arith, omega arith, omega arith)

-- what one place adds to the counts
record Steps (code : List Instr) (k : ℕ) : Type 0 where
  at_most : times_before code (k + 1) + nexts_before code (k + 1) ≤ times_before code k + nexts_before code k + 1
  more_times : times_before code k ≤ times_before code (k + 1)
  more_nexts : nexts_before code k ≤ nexts_before code (k + 1)

step : (code : List Instr) (k : ℕ) → k < length code → Steps code k
step code k h =
    let t = count_more is_times code k h in
    let n = count_more is_next code k h in
    let o = one_of (instr_at code k) in
    record { at_most = omega (arith, t, n, o.2); more_times = omega (arith, t); more_nexts = omega (arith, n) }

-- inside a loop more `times` than `next` have come
more_times : (code : List Instr) (p m : ℕ) → Ends code p m → is_times (instr_at code p) ≡ true → (d : ℕ) → p + d < m → nexts_before code (p + d + 1) + times_before code p < times_before code (p + d + 1) + nexts_before code p
more_times code p m e is zero h =
    let z : p + 0 ≡ p = omega arith in
    let t = count_more is_times code p (omega (arith, e.within)) in
    let n = count_more is_next code p (omega (arith, e.within)) in
    let o = one_of (instr_at code p) in
    let yes : one_if (is_times (instr_at code p)) ≡ 1 = rw is refl in
    rw z (omega (arith, t, n, o.2, yes))
more_times code p m e is (suc d) h =
    let less = more_times code p m e is d (omega arith) in
    let z : p + suc d ≡ p + d + 1 = omega arith in
    let s = step code (p + d + 1) (omega (arith, e.within)) in
    let uneven = e.before (p + d + 1) (omega arith) (omega arith) in
    rw z (by (cases_lt (nexts_before code (p + d + 1 + 1) + times_before code p) (times_before code (p + d + 1 + 1) + nexts_before code p)) less s uneven)
  where
    by : (nexts_before code (p + d + 1 + 1) + times_before code p < times_before code (p + d + 1 + 1) + nexts_before code p) ⊎ (times_before code (p + d + 1 + 1) + nexts_before code p ≤ nexts_before code (p + d + 1 + 1) + times_before code p)
        → nexts_before code (p + d + 1) + times_before code p < times_before code (p + d + 1) + nexts_before code p
        → Steps code (p + d + 1)
        → (IsEven code p (p + d + 1) → ⊥)
        → nexts_before code (p + d + 1 + 1) + times_before code p < times_before code (p + d + 1 + 1) + nexts_before code p
    by (inl lt) less s uneven = lt
    by (inr ge) less s uneven =
        let even : IsEven code p (p + d + 1) = omega (arith, s.at_most, s.more_times, s.more_nexts, less, ge) in
        absurd (uneven even)

-- the same at a place
inside : (code : List Instr) (p m k : ℕ) → Ends code p m → is_times (instr_at code p) ≡ true → p ≤ k → k < m → nexts_before code (k + 1) + times_before code p < times_before code (k + 1) + nexts_before code p
inside code p m k e is from below =
    let z : p + (k - p) ≡ k = omega arith in
    let h = more_times code p m e is (k - p) (omega arith) in
    subst (λ x. nexts_before code (x + 1) + times_before code p < times_before code (x + 1) + nexts_before code p) z h

-- ---- how loops nest

-- a loop that begins inside another one ends inside it
pub nested : (code : List Instr) (p q m n : ℕ) → Ends code p m → is_times (instr_at code p) ≡ true → Ends code q n → is_times (instr_at code q) ≡ true → p < q → q ≤ m → n ≤ m
nested code p q m n e is e' is' lt le = by (cases_lt m n)
  where
    by : (m < n) ⊎ (n ≤ m) → n ≤ m
    by (inr h) = h
    by (inl h) =
        let one = inside code q n m e' is' le h in
        let z : q - 1 + 1 ≡ q = omega arith in
        let two = inside code p m (q - 1) e is (omega arith) (omega arith) in
        let three : nexts_before code q + times_before code p < times_before code q + nexts_before code p = subst (λ x. nexts_before code x + times_before code p < times_before code x + nexts_before code p) z two in
        absurd (omega (arith, one, three, e.here))
