-- The match of a `times` is a `next`, and comes after it.
use Rattle.std.proofs.Common.{◌≡◌, ◌≢◌, ℕ, zero, suc, ◌+◌, ◌-◌, ◌<◌, ◌≤◌, List, [], ◌∷◌, length, take, drop, get_or, add-zero, Bool, true, false, cond, Some}
use Rattle.std.proofs.Common.{find, refl, sym, ap, ◌∙◌, arith, length-drop, slice_range}
use Rattle.std.specs.List.{range_with_len, count_by, sum_by}
use Rattle.std.proofs.Math.Seq.{take-suc}
use Rattle.std.proofs.lemmas.Bool.{eqb-true, eqb-false}
use Rattle.std.proofs.lemmas.List.{get_or-drop}
use Rattle.std.proofs.lemmas.List.Sums.{sum_by-append, sum_by-cons}
use Rattle.sts_code.specs.declared.instr.Instr.{Instr}
use Rattle.sts_code.specs.declared.instr.Instr.TheVariants.{Times, Next, Ret}
use Rattle.sts_code.specs.Loops.{is_times, is_next, is_balanced, match_of}
use Rattle.sts_code.specs.Program.{instr_at}

pub next_is : (i : Instr) → is_next i ≡ true → i ≡ Next
next_is Next e = refl
next_is _ e = cc

pub times_is : (i : Instr) → is_times i ≡ true → (n : ℕ) × (i ≡ Times n)
times_is (Times n) e = (n, refl)
times_is _ e = absurd (cc)

one_more : (t : Instr → Bool) (xs : List Instr) (k : ℕ) → k < length xs → count_by t (take (suc k) xs) ≡ count_by t (take k xs) + cond (t (get_or xs k Ret)) 1 0
one_more t xs k lt =
    let f : Instr → ℕ = λ x. cond (t x) 1 0 in
    let e = take-suc xs k Ret lt in
    let a = sum_by-append f (take k xs) (get_or xs k Ret ∷ []) in
    let b : sum_by f (get_or xs k Ret ∷ []) ≡ f (get_or xs k Ret) = sum_by-cons f (get_or xs k Ret) [] ∙ add-zero _ in
    ap (sum_by f) e ∙ a ∙ ap (λ n. sum_by f (take k xs) + n) b

-- how many instructions from p to j pass the test
abbrev counted : (Instr → Bool) → List Instr → ℕ → ℕ → ℕ
counted t code p j = count_by t (slice_range code p (j + 1))

counted_more : (t : Instr → Bool) (code : List Instr) (p j : ℕ) → p ≤ j → j + 1 < length code → counted t code p (j + 1) ≡ counted t code p j + cond (t (instr_at code (j + 1))) 1 0
counted_more t code p j le lt =
    let k : j + 1 + 1 - p ≡ suc (j + 1 - p) = omega arith in
    let place : p + (j + 1 - p) ≡ j + 1 = omega arith in
    let within : j + 1 - p < length (drop p code) = omega (arith, length-drop p code) in
    let g : get_or (drop p code) (j + 1 - p) Ret ≡ instr_at code (j + 1) = get_or-drop p code (j + 1 - p) Ret ∙ ap (λ q. get_or code q Ret) place in
    ap (λ n. count_by t (take n (drop p code))) k ∙ one_more t (drop p code) (j + 1 - p) within ∙ ap (λ i. counted t code p j + cond (t i) 1 0) g

-- if more loops open than end, the first place that balances them is a `next`
scan : (code : List Instr) (p m j q : ℕ) → p ≤ j → j + 1 + m ≤ length code → counted is_next code p j < counted is_times code p j → find (λ k. is_balanced (slice_range code p (k + 1))) (range_with_len (j + 1) m) ≡ Some q → (is_next (instr_at code q) ≡ true) × (j < q) × (q < length code)
scan code p zero j q le far lt e = absurd (cc)
scan code p (suc m) j q le far lt e = by (λ lt' rest. scan code p m (j + 1) q (omega arith) (omega arith) lt' rest) (is_balanced (slice_range code p (j + 1 + 1))) refl (is_next (instr_at code (j + 1))) refl
  where
    Found : ℕ → Type 0
    Found k = (is_next (instr_at code q) ≡ true) × (k < q) × (q < length code)

    Rest : Type 0
    Rest = find (λ k. is_balanced (slice_range code p (k + 1))) (range_with_len (j + 1 + 1) m) ≡ Some q

    here : j + 1 < length code
    here = omega arith

    a : counted is_next code p (j + 1) ≡ counted is_next code p j + cond (is_next (instr_at code (j + 1))) 1 0
    a = counted_more is_next code p j le here

    b : counted is_times code p (j + 1) ≡ counted is_times code p j + cond (is_times (instr_at code (j + 1))) 1 0
    b = counted_more is_times code p j le here

    more : (w : Bool) → is_next (instr_at code (j + 1)) ≡ w → counted is_next code p (j + 1) ≢ counted is_times code p (j + 1) → counted is_next code p (j + 1) < counted is_times code p (j + 1)
    more true n ne = let a' : counted is_next code p (j + 1) ≡ counted is_next code p j + 1 = a ∙ ap (λ v. counted is_next code p j + cond v 1 0) n in omega (arith, b)
    more false n ne = let a' : counted is_next code p (j + 1) ≡ counted is_next code p j + 0 = a ∙ ap (λ v. counted is_next code p j + cond v 1 0) n in omega (arith, b)

    by : (counted is_next code p (j + 1) < counted is_times code p (j + 1) → Rest → Found (j + 1)) → (v : Bool) → is_balanced (slice_range code p (j + 1 + 1)) ≡ v → (w : Bool) → is_next (instr_at code (j + 1)) ≡ w → (is_next (instr_at code q) ≡ true) × (j < q) × (q < length code)
    by ih true h true n =
        let s : Some (j + 1) ≡ Some q = sym (ap (λ v. cond v (Some (j + 1)) (find (λ k. is_balanced (slice_range code p (k + 1))) (range_with_len (j + 1 + 1) m))) h) ∙ e in
        let same : j + 1 ≡ q = cc in
        (ap (λ k. is_next (instr_at code k)) (sym same) ∙ n, omega arith, omega arith)
    by ih true h false n =
        let same = eqb-true (counted is_next code p (j + 1)) (counted is_times code p (j + 1)) h in
        let a' : counted is_next code p (j + 1) ≡ counted is_next code p j + 0 = a ∙ ap (λ v. counted is_next code p j + cond v 1 0) n in
        absurd (omega (arith, b))
    by ih false h w n =
        let rest : find (λ k. is_balanced (slice_range code p (k + 1))) (range_with_len (j + 1 + 1) m) ≡ Some q = sym (ap (λ v. cond v (Some (j + 1)) (find (λ k. is_balanced (slice_range code p (k + 1))) (range_with_len (j + 1 + 1) m))) h) ∙ e in
        let other = eqb-false (counted is_next code p (j + 1)) (counted is_times code p (j + 1)) h in
        let r = ih (more w n other) rest in
        (r.0, omega arith, r.2)

-- the match of a `times` is a `next` after it
pub match_is_next : (code : List Instr) (p n q : ℕ) → p < length code → instr_at code p ≡ Times n → match_of code p ≡ Some q → (instr_at code q ≡ Next) × (p < q) × (q < length code)
match_is_next code p n q lt is e =
    let none : p - p ≡ 0 = omega arith in
    let one : p + 1 - p ≡ suc 0 = omega arith in
    let within : 0 < length (drop p code) = omega (arith, length-drop p code) in
    let place : p + 0 ≡ p = omega arith in
    let g : get_or (drop p code) 0 Ret ≡ Times n = get_or-drop p code 0 Ret ∙ ap (λ k. get_or code k Ret) place ∙ is in
    let nexts : counted is_next code p p ≡ 0 = ap (λ k. count_by is_next (take k (drop p code))) one ∙ (rw g at (one_more is_next (drop p code) 0 within)) in
    let times : counted is_times code p p ≡ 1 = ap (λ k. count_by is_times (take k (drop p code))) one ∙ (rw g at (one_more is_times (drop p code) 0 within)) in
    let s = scan code p (length code - (p + 1)) p q (omega arith) (omega arith) (omega arith) e in
    (next_is (instr_at code q) s.0, s.1, s.2)
