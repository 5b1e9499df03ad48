-- The numbers that a word of a text writes (this project's own).
use Rattle.std.specs.Prelude.{ℕ, ◌^◌, ◌-◌, ◌==◌, Bool, not, ◌&&◌, List, length, drop, nat_lt}
use Rattle.std.specs.Prelude.{nat_le, slice_index, Option, Some, None, ℤ, pos, negsuc, neg_ℤ}
use Rattle.std.specs.Prelude.{if◌then◌else◌}
use Rattle.std.specs.List.{list_all}
use Rattle.std.specs.Char.{is_ascii_digit}
use Rattle.std.specs.Str.Parse.{digits_value}

-- one digit or more, and nothing else?
abbrev pub is_digits : List ℕ → Bool
is_digits word = not (length word == 0) && list_all is_ascii_digit word

-- the number that digits write, if it is at most `most`
abbrev pub digits_up_to : ℕ → List ℕ → Option ℕ
digits_up_to most word =
    if is_digits word && nat_le (digits_value 10 word) most then Some (digits_value 10 word)
    else None

-- does the word begin with a 0 and go on?
abbrev pub has_leading_zero : List ℕ → Bool
has_leading_zero word = nat_lt 1 (length word) && (slice_index word 0 == 48)

-- the number below 2^32 that the word spells without a leading zero
abbrev pub numeral : List ℕ → Option ℕ
numeral word = if has_leading_zero word then None else digits_up_to (2 ^ 32 - 1) word

-- the number from -2^63 to 2^63 - 1 that digits, or a minus and digits, write
abbrev pub number : List ℕ → Option ℤ
number word =
    if slice_index word 0 == 45
    then (if is_digits (drop 1 word) && nat_le (digits_value 10 (drop 1 word)) (2 ^ 63)
    then Some (neg_ℤ (pos (digits_value 10 (drop 1 word)))) else None)
    else (if is_digits word && nat_lt (digits_value 10 word) (2 ^ 63)
    then Some (pos (digits_value 10 word)) else None)

-- a number that is from 0 to `most`
abbrev pub up_to : ℕ → Option ℤ → Option ℕ
up_to most (Some (pos n)) = if nat_le n most then Some n else None
up_to most (Some (negsuc n)) = None
up_to most None = None

-- the number from 0 to `most` that a word writes; `-0` is 0
abbrev pub number_up_to : ℕ → List ℕ → Option ℕ
number_up_to most word = up_to most (number word)
