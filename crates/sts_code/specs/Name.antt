-- Names of functions and labels (this project's own).
use Rattle.std.specs.Prelude.{ℕ, List, [], ◌∷◌, length, Bool, false, ◌&&◌, ◌||◌, ◌==◌, not, nat_le}
use Rattle.std.specs.List.{list_all}
use Rattle.sts_code.specs.declared.limits.TheConstants.{MAX_NAME}
use Rattle.std.specs.Char.{is_ascii_alphanumeric, is_ascii_digit}

-- a letter, a digit or an underscore?
abbrev pub is_name_byte : ℕ → Bool
is_name_byte b = is_ascii_alphanumeric b || b == 95

abbrev pub begins_with_digit : List ℕ → Bool
begins_with_digit [] = false
begins_with_digit (b ∷ bs) = is_ascii_digit b

-- 1 to 32 letters, digits and underscores, the first of them no digit?
abbrev pub is_name : List ℕ → Bool
is_name bytes =
    not (length bytes == 0) && nat_le (length bytes) MAX_NAME && list_all is_name_byte bytes
    && not (begins_with_digit bytes)
