-- The spelling of a number is read back as the number.
use Rattle.std.proofs.Common.{◌≡◌, ℕ, true, false, List, [], ◌∷◌, get_or, arith, refl}
use Rattle.std.specs.Prelude.{◌==◌}
use Rattle.std.specs.List.{list_all}
use Rattle.std.specs.Char.{is_ascii_digit}
use Rattle.std.proofs.lemmas.Bool.Decides.{nat_tests}

pub no_minus : (ds : List ℕ) → list_all is_ascii_digit ds ≡ true → (get_or ds 0 0 == 45) ≡ false
no_minus [] e = refl
no_minus (d ∷ ds) e = grind (arith, nat_tests)
