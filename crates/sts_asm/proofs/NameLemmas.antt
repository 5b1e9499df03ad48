use Rattle.std.proofs.Common.{◌≡◌, ℕ, ◌<◌, Bool, true, false, List, [], ◌∷◌, arith, refl}
use Rattle.std.specs.Prelude.{◌&&◌}
use Rattle.std.specs.List.{list_all}
use Rattle.std.specs.Str.{IsUtf8, IsAscii}
use Rattle.std.proofs.lemmas.Str.Ascii.{IsAscii-nil, IsAscii-cons}
use Rattle.std.proofs.lemmas.Str.{IsUtf8-from_ascii}
use Rattle.std.proofs.lemmas.Bool.Decides.{nat_tests}
use Rattle.sts_code.specs.Name.{is_name_byte, is_name}

pub both : (a b : Bool) → (a && b) ≡ true → (a ≡ true) × (b ≡ true)
both true true e = (refl, refl)
both true false e = cc
both false b e = cc

name_byte_small : (c : ℕ) → is_name_byte c ≡ true → c < 128
name_byte_small c e = grind (arith, nat_tests)

-- bytes of a class below 128 are ASCII
pub all_ascii : (p : ℕ → Bool) → ((c : ℕ) → p c ≡ true → c < 128) → (bs : List ℕ) → list_all p bs ≡ true → IsAscii bs
all_ascii p small [] e = IsAscii-nil
all_ascii p small (c ∷ cs) e =
    let h = both (p c) (list_all p cs) e in
    IsAscii-cons c cs (small c h.0) (all_ascii p small cs h.1)

-- the bytes of a name are name bytes
pub name_bytes : (bs : List ℕ) → is_name bs ≡ true → list_all is_name_byte bs ≡ true
name_bytes bs e = grind (arith, nat_tests)

-- a name is text
pub name_is_text : (bs : List ℕ) → is_name bs ≡ true → IsUtf8 bs
name_is_text bs e = IsUtf8-from_ascii bs (all_ascii is_name_byte name_byte_small bs (name_bytes bs e))
