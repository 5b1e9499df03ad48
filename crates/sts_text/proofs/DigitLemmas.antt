use Rattle.std.proofs.Common.{◌≡◌, ℕ, ◌+◌, ◌*◌, ◌<◌, ◌≤◌, ◌^◌, Bool, true, false, cond, List, length, get_or, take, take_all, arith, refl, sym, ◌∙◌, ap}
use Rattle.std.specs.Prelude.{Option, Some, None, nat_lt}
use Rattle.std.specs.Char.{digit_value}
use Rattle.std.specs.Str.Parse.{digits_value}
use Rattle.std.proofs.lemmas.Int.Digits.{digits_value_more}
use Rattle.std.proofs.lemmas.Str.Parse.{digits_value-take-le}
use Rattle.std.proofs.lemmas.Bool.Decides.{nat_tests}

-- a number, if it is below 2^64
abbrev pub if_fits : ℕ → Option ℕ
if_fits n = cond (nat_lt n (2 ^ 64)) (Some n) None

fits_at : (b : Bool) (n : ℕ) → nat_lt n (2 ^ 64) ≡ b → n < 2 ^ 64 → cond b (Some n) None ≡ Some n
fits_at true n e h = refl
fits_at false n e h = absurd (grind (arith, nat_tests))

fits : (n : ℕ) → n < 2 ^ 64 → if_fits n ≡ Some n
fits n h = fits_at (nat_lt n (2 ^ 64)) n refl h

fit_at : (b : Bool) (n m : ℕ) → nat_lt n (2 ^ 64) ≡ b → cond b (Some n) None ≡ Some m → (m ≡ n) × (n < 2 ^ 64)
fit_at true n m e h = (cc, grind (arith, nat_tests))
fit_at false n m e h = cc

past_at : (b : Bool) (n : ℕ) → nat_lt n (2 ^ 64) ≡ b → cond b (Some n) None ≡ None → 2 ^ 64 ≤ n
past_at true n e h = cc
past_at false n e h = grind (arith, nat_tests)

unfit_at : (b : Bool) (n : ℕ) → nat_lt n (2 ^ 64) ≡ b → 2 ^ 64 ≤ n → cond b (Some n) None ≡ None
unfit_at true n e h = absurd (grind (arith, nat_tests))
unfit_at false n e h = refl

-- one more digit gives the value of one digit more of the word
pub more_digits : (word : List ℕ) (i value next : ℕ) → value ≡ digits_value 10 (take i word) → i < length word → if_fits (value * 10 + digit_value (get_or word i 0)) ≡ Some next → (next ≡ digits_value 10 (take (i + 1) word)) × (next < 2 ^ 64)
more_digits word i value next so_far small e =
    let n : ℕ = value * 10 + digit_value (get_or word i 0) in
    let h = fit_at (nat_lt n (2 ^ 64)) n next refl e in
    let is : next ≡ digits_value 10 (take (i + 1) word) = h.0 ∙ ap (λ (v : ℕ). v * 10 + digit_value (get_or word i 0)) so_far ∙ sym (digits_value_more 10 word i small) in
    (is, omega (arith, h.0, h.1))

-- if one more digit is too many, the whole is
pub too_many : (word : List ℕ) (i value : ℕ) → value ≡ digits_value 10 (take i word) → i < length word → if_fits (value * 10 + digit_value (get_or word i 0)) ≡ None → if_fits (digits_value 10 word) ≡ None
too_many word i value so_far small e =
    let n : ℕ = value * 10 + digit_value (get_or word i 0) in
    let past = past_at (nat_lt n (2 ^ 64)) n refl e in
    let is : n ≡ digits_value 10 (take (i + 1) word) = ap (λ (v : ℕ). v * 10 + digit_value (get_or word i 0)) so_far ∙ sym (digits_value_more 10 word i small) in
    let below = digits_value-take-le 10 word (i + 1) (omega arith) in
    unfit_at (nat_lt (digits_value 10 word) (2 ^ 64)) (digits_value 10 word) refl (omega (arith, past, is, below))

pub all_digits : (word : List ℕ) (i value : ℕ) → value ≡ digits_value 10 (take i word) → length word ≤ i → value < 2 ^ 64 → Some value ≡ if_fits (digits_value 10 word)
all_digits word i value so_far whole small =
    let is : value ≡ digits_value 10 word = so_far ∙ ap (digits_value 10) (take_all i word whole) in
    sym (ap if_fits (sym is) ∙ fits value small)
