use Rattle.std.proofs.Common.{◌≡◌, ℕ, suc, ◌<◌, ◌≤◌, ◌^◌, true, ◌∷◌, length, refl, ◌∙◌, ap, arith}
use Rattle.std.specs.Prelude.{◌==◌, not, nat_le, nat_lt, Some, ℤ, pos, negsuc}
use Rattle.std.specs.List.{list_all}
use Rattle.std.specs.Char.{is_ascii_digit}
use Rattle.std.specs.Fmt.{decimal, signed_decimal}
use Rattle.std.proofs.lemmas.Fmt.{digits_decimal, digits_value-decimal, decimal_nonempty, length-decimal-le}
use Rattle.std.proofs.lemmas.Bool.Decides.{nat_tests}
use Rattle.sts_code.specs.Name.{is_name, is_name_byte}
use Rattle.sts_text.specs.Number.{number, number_up_to, up_to}
use Rattle.sts_text.proofs.NumberLemmas.{own, decimal_is_digits}
use Rattle.sts_asm.specs.Operand as operand
use Rattle.sts_list.specs.Spelling.{label, slot}
use Rattle.sts_list.specs.RoundTrip.{IsValue}
use Rattle.sts_list.proofs.ByteLemmas.{is_plain, all_implied, IsWord}
use Rattle.sts_text.proofs.BackLemmas.{no_minus}

digit_plain : (b : ℕ) → is_ascii_digit b ≡ true → is_plain b ≡ true
digit_plain b e = grind (arith, nat_tests)

digit_name : (b : ℕ) → is_ascii_digit b ≡ true → is_name_byte b ≡ true
digit_name b e = grind (arith, nat_tests)

pub digits_of : (n : ℕ) → n < 2 ^ 64 → list_all is_ascii_digit (decimal n) ≡ true
digits_of n h = digits_decimal own n h

pub decimal_word : (n : ℕ) → n < 2 ^ 64 → IsWord (decimal n)
decimal_word n h = record { filled = decimal_nonempty n h; plain = all_implied is_ascii_digit is_plain digit_plain (decimal n) (digits_of n h) }

pub positive_read : (n : ℕ) → n < 2 ^ 63 → number (decimal n) ≡ Some (pos n)
positive_read n h =
    let wide : n < 2 ^ 64 = omega arith in
    let small : nat_lt n (2 ^ 63) ≡ true = grind (arith, nat_tests) in
    rw (no_minus (decimal n) (digits_of n wide), decimal_is_digits n wide, digits_value-decimal own n wide, small) refl

pub number_read : (most n : ℕ) → n ≤ most → n < 2 ^ 63 → number_up_to most (decimal n) ≡ Some n
number_read most n h small =
    let t : nat_le n most ≡ true = grind (arith, nat_tests) in
    ap (up_to most) (positive_read n small) ∙ rw t refl

negative_read : (n : ℕ) → n < 2 ^ 63 → number (45 ∷ decimal (suc n)) ≡ Some (negsuc n)
negative_read n h =
    let wide : suc n < 2 ^ 64 = omega arith in
    let small : nat_le (suc n) (2 ^ 63) ≡ true = grind (arith, nat_tests) in
    rw (decimal_is_digits (suc n) wide, digits_value-decimal own (suc n) wide, small) refl

pub value_read : (v : ℤ) → IsValue v → number (signed_decimal v) ≡ Some v
value_read (pos n) h = positive_read n h
value_read (negsuc n) h = negative_read n h

pub value_word : (v : ℤ) → IsValue v → IsWord (signed_decimal v)
value_word (pos n) h = decimal_word n (omega arith)
value_word (negsuc n) h = let w = decimal_word (suc n) (omega arith) in record { filled = omega arith; plain = w.plain }

pub slot_read : (s : ℕ) → s ≤ 255 → operand.slot (slot s) ≡ Some s
slot_read s h =
    let wide : s < 2 ^ 64 = omega arith in
    let t : nat_le s 255 ≡ true = grind (arith, nat_tests) in
    rw (decimal_is_digits s wide, digits_value-decimal own s wide, t) refl

pub slot_word : (s : ℕ) → s < 2 ^ 64 → IsWord (slot s)
slot_word s h = record { filled = omega arith; plain = (decimal_word s h).plain }

pub label_word : (pc : ℕ) → pc < 2 ^ 64 → IsWord (label pc)
label_word pc h = record { filled = omega arith; plain = (decimal_word pc h).plain }

pub label_name : (pc : ℕ) → pc < 10000 → is_name (label pc) ≡ true
label_name pc h =
    let wide : pc < 2 ^ 64 = omega arith in
    let short : length (decimal pc) ≤ 4 = length-decimal-le 4 pc (omega arith) h wide in
    let t : nat_le (length (label pc)) 32 ≡ true = grind (arith, nat_tests, short) in
    let f : not (length (label pc) == 0) ≡ true = grind (arith, nat_tests) in
    rw (f, t, all_implied is_ascii_digit is_name_byte digit_name (decimal pc) (digits_of pc wide)) refl
