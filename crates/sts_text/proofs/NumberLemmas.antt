use Rattle.std.proofs.Common.{zero, suc, ◌-◌, ◌≡◌, ℕ, ◌<◌, ◌≤◌, ◌^◌, Bool, true, false, cond, List}
use Rattle.std.proofs.Common.{[], ◌∷◌, length, get_or, arith, refl, drop, sym, ◌∙◌, ap, rules}
use Rattle.std.proofs.lemmas.Bool.{and_parts}
use Rattle.std.proofs.lemmas.Option.{cond_some}
use Rattle.std.specs.Prelude.{◌↔◌, Option, Some, None, Result, Ok, Err, nat_le, ◌==◌, ◌&&◌, not, ℤ, pos, neg_ℤ}
use Rattle.std.specs.Result.{result_ok, OkIff}
use Rattle.std.specs.Int.{w64}
use Rattle.std.specs.List.{list_all}
use Rattle.std.specs.Str.{IsUtf8, IsAscii}
use Rattle.std.specs.Char.{is_ascii_digit}
use Rattle.std.specs.Str.Parse.{ParsesSigned, digits_value}
use Rattle.std.proofs.lemmas.Str.Parse.{parse_signed_minus, IsNumeralModel, numerals_by_value}
use Rattle.std.proofs.lemmas.Str.Ascii.{IsAscii-nil, IsAscii-cons}
use Rattle.std.proofs.lemmas.Str.{IsUtf8-from_ascii}
use Rattle.std.proofs.lemmas.Bool.Decides.{nat_tests}
use Rattle.std.specs.Fmt.{decimal}
use Rattle.std.proofs.lemmas.Fmt.{decimal-digits_value, digits_decimal, digits_value-decimal, first_decimal, decimal_nonempty, decimal_digit}
use Rattle.sts_text.specs.Number.{is_digits, has_leading_zero, digits_up_to, numeral}

pub own : IsNumeralModel (λ ds. list_all is_ascii_digit ds ≡ true) (digits_value 10)
own = numerals_by_value _ (search rules)

digit_small : (c : ℕ) → is_ascii_digit c ≡ true → c < 128
digit_small c e = grind (arith, nat_tests)

pub ascii_digits : (ds : List ℕ) → list_all is_ascii_digit ds ≡ true → IsAscii ds
ascii_digits [] e = IsAscii-nil
ascii_digits (c ∷ cs) e =
    let h = and_parts (is_ascii_digit c) (list_all is_ascii_digit cs) e in
    IsAscii-cons c cs (digit_small c h.0) (ascii_digits cs h.1)

some_digit : (n : ℕ) → not (n == 0) ≡ true → 0 < n
some_digit n e = grind (arith, nat_tests)

at_ok_le : {E : Type 0} (r : Result ℤ E) (P : Type 0) (n x limit : ℕ) (z : ℤ) → OkIff r (P × (0 < n) × (x ≤ limit)) z → P → 0 < n → result_ok r ≡ cond (nat_le x limit) (Some z) None
at_ok_le (Ok v) P n x limit z h p more = grind (arith, nat_tests, h.0.2, h.1)
at_ok_le (Err e) P n x limit z h p more = grind (arith, nat_tests, λ (q : x ≤ limit). h (p, more, q))

pub parsed_negative : {E : Type 0} (bs : List ℕ) (r : Result ℤ E) → ParsesSigned w64 10 bs r → get_or bs 0 0 ≡ 45 → is_digits (drop 1 bs) ≡ true → result_ok r ≡ cond (nat_le (digits_value 10 (drop 1 bs)) (2 ^ 63)) (Some (neg_ℤ (pos (digits_value 10 (drop 1 bs))))) None
parsed_negative bs r h m e =
    let p = and_parts (not (length (drop 1 bs) == 0)) (list_all is_ascii_digit (drop 1 bs)) e in
    at_ok_le r (list_all is_ascii_digit (drop 1 bs) ≡ true) (length (drop 1 bs)) (digits_value 10 (drop 1 bs)) (2 ^ 63) (neg_ℤ (pos (digits_value 10 (drop 1 bs)))) (parse_signed_minus own w64 bs r h m) p.1 (some_digit (length (drop 1 bs)) p.0)

minus_ascii : (bs : List ℕ) → get_or bs 0 0 ≡ 45 → IsAscii (drop 1 bs) → IsAscii bs
minus_ascii [] m h = h
minus_ascii (b ∷ bs) m h = IsAscii-cons b bs (omega arith) h

pub minus_utf8 : (bs : List ℕ) → get_or bs 0 0 ≡ 45 → is_digits (drop 1 bs) ≡ true → IsUtf8 bs
minus_utf8 bs m e = IsUtf8-from_ascii bs (minus_ascii bs m (ascii_digits (drop 1 bs) (and_parts (not (length (drop 1 bs) == 0)) (list_all is_ascii_digit (drop 1 bs)) e).1))

none_or : (b : Bool) (r : Option ℕ) (y : ℕ) → cond b None r ≡ Some y → (b ≡ false) × (r ≡ Some y)
none_or true r y e = cc
none_or false r y e = (refl, e)

alone : (ds : List ℕ) → has_leading_zero ds ≡ false → 0 < length ds → get_or ds 0 0 ≡ 48 → length ds ≡ 1
alone ds e h z = grind (arith, nat_tests)

spells : (word : List ℕ) (n : ℕ) → numeral word ≡ Some n → (n < 2 ^ 32) × (word ≡ decimal n)
spells word n e =
    let p = none_or (has_leading_zero word) (digits_up_to (2 ^ 32 - 1) word) n e in
    let q = cond_some (is_digits word && nat_le (digits_value 10 word) (2 ^ 32 - 1)) (digits_value 10 word) n p.1 in
    let r = and_parts (is_digits word) (nat_le (digits_value 10 word) (2 ^ 32 - 1)) q.0 in
    let s = and_parts (not (length word == 0)) (list_all is_ascii_digit word) r.0 in
    let small : digits_value 10 word < 2 ^ 32 = grind (arith, nat_tests, r.1) in
    let filled = some_digit (length word) s.0 in
    (omega (arith, q.1, small), sym (decimal-digits_value own word s.1 filled (alone word p.0 filled) (omega arith)) ∙ ap decimal q.1)

no_zero_before : (n : ℕ) → n < 2 ^ 32 → has_leading_zero (decimal n) ≡ false
no_zero_before zero h = rw (decimal_digit 0 (omega arith)) refl
no_zero_before (suc n) h = let first = first_decimal (suc n) (omega arith) (omega arith) in grind (arith, nat_tests, first)

pub decimal_is_digits : (n : ℕ) → n < 2 ^ 64 → is_digits (decimal n) ≡ true
decimal_is_digits n h =
    let filled = decimal_nonempty n h in
    let t : not (length (decimal n) == 0) ≡ true = grind (arith, nat_tests, filled) in
    rw (t, digits_decimal own n h) refl

decimal_read : (n : ℕ) → n < 2 ^ 32 → numeral (decimal n) ≡ Some n
decimal_read n h =
    let small : nat_le n (2 ^ 32 - 1) ≡ true = grind (arith, nat_tests) in
    rw (no_zero_before n h, decimal_is_digits n (omega arith), digits_value-decimal own n (omega arith), small) refl

-- `numeral` reads a number if and only if the word is the number's decimal spelling
pub numeral_spelled : (word : List ℕ) (read : Option ℕ) → read ≡ numeral word → (n : ℕ) → (read ≡ Some n) ↔ ((n < 2 ^ 32) × (word ≡ decimal n))
numeral_spelled word read e n = rw e (spells word n, λ (h : (n < 2 ^ 32) × (word ≡ decimal n)). rw h.1 (decimal_read n h.0))
