-- Numbers are read back from the front of a text, up to the first byte that is no digit.
use Rattle.std.proofs.Common.{◌≡◌, ℕ, suc, ◌<◌, ◌^◌, true, false, List, [], ◌∷◌, ◌++◌, length, get_or, refl, sym, ap, arith}
use Rattle.std.specs.Prelude.{ℤ, pos, negsuc}
use Rattle.std.specs.List.{list_all}
use Rattle.std.specs.Char.{is_ascii_digit}
use Rattle.std.specs.Fmt.{decimal, signed_decimal}
use Rattle.std.proofs.lemmas.Fmt.{decimal_injective, decimal_nonempty}
use Rattle.sts_list.specs.RoundTrip.{IsValue}
use Rattle.sts_list.proofs.ByteLemmas.{both}
use Rattle.sts_list.proofs.DecimalLemmas.{digits_of}

-- the first byte is no digit, if there is one
abbrev pub NoDigit : List ℕ → Type 0
NoDigit xs = is_ascii_digit (get_or xs 0 0) ≡ false

no_digit : (d : ℕ) (xs ys : List ℕ) → is_ascii_digit d ≡ true → NoDigit xs → xs ≡ d ∷ ys → ⊥
no_digit d xs ys f n e = let k = rw e at n in cc

-- so the digits end where the rest begins
fronts : (us vs xs ys : List ℕ) → list_all is_ascii_digit us ≡ true → list_all is_ascii_digit vs ≡ true → NoDigit xs → NoDigit ys → us ++ xs ≡ vs ++ ys → (us ≡ vs) × (xs ≡ ys)
fronts [] [] xs ys f g m n e = (refl, e)
fronts [] (v ∷ vs) xs ys f g m n e = absurd (no_digit v xs (vs ++ ys) (both (is_ascii_digit v) (list_all is_ascii_digit vs) g).0 m e)
fronts (u ∷ us) [] xs ys f g m n e = absurd (no_digit u ys (us ++ xs) (both (is_ascii_digit u) (list_all is_ascii_digit us) f).0 n (sym e))
fronts (u ∷ us) (v ∷ vs) xs ys f g m n e =
    let p = both (is_ascii_digit u) (list_all is_ascii_digit us) f in
    let q = both (is_ascii_digit v) (list_all is_ascii_digit vs) g in
    let rest : us ++ xs ≡ vs ++ ys = cc in
    let h = fronts us vs xs ys p.1 q.1 m n rest in
    (cc, h.1)

pub number_read : (m n : ℕ) (xs ys : List ℕ) → m < 2 ^ 64 → n < 2 ^ 64 → NoDigit xs → NoDigit ys → decimal m ++ xs ≡ decimal n ++ ys → (m ≡ n) × (xs ≡ ys)
number_read m n xs ys low high f g e =
    let h = fronts (decimal m) (decimal n) xs ys (digits_of m low) (digits_of n high) f g e in
    (decimal_injective m n low high h.0, h.1)

minus_first : (ds xs ys : List ℕ) → list_all is_ascii_digit ds ≡ true → 0 < length ds → ds ++ xs ≡ 45 ∷ ys → ⊥
minus_first [] xs ys f filled e = omega arith
minus_first (d ∷ ds) xs ys f filled e = let p = both (is_ascii_digit d) (list_all is_ascii_digit ds) f in let k : d ≡ 45 = cc in let h = rw k at p.0 in cc

no_minus : (n : ℕ) (xs ys : List ℕ) → n < 2 ^ 64 → decimal n ++ xs ≡ 45 ∷ ys → ⊥
no_minus n xs ys low e = minus_first (decimal n) xs ys (digits_of n low) (decimal_nonempty n low) e

-- like `number_read`, for numbers with a sign
pub value_read : (y z : ℤ) (xs ys : List ℕ) → IsValue y → IsValue z → NoDigit xs → NoDigit ys → signed_decimal y ++ xs ≡ signed_decimal z ++ ys → (y ≡ z) × (xs ≡ ys)
value_read (pos m) (pos n) xs ys low high f g e = let h = number_read m n xs ys (omega arith) (omega arith) f g e in (ap pos h.0, h.1)
value_read (pos m) (negsuc n) xs ys low high f g e = absurd (no_minus m xs (decimal (suc n) ++ ys) (omega arith) e)
value_read (negsuc m) (pos n) xs ys low high f g e = absurd (no_minus n ys (decimal (suc m) ++ xs) (omega arith) (sym e))
value_read (negsuc m) (negsuc n) xs ys low high f g e =
    let rest : decimal (suc m) ++ xs ≡ decimal (suc n) ++ ys = cc in
    let h = number_read (suc m) (suc n) xs ys (omega arith) (omega arith) f g rest in
    (ap negsuc (omega arith), h.1)
