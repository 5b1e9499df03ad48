-- A stack that is seen in reverse, read from the bottom.
use Rattle.std.proofs.Common.{◌≡◌, ℕ, ◌+◌, ◌-◌, ◌<◌, List, ◌∷◌, length, get_or, drop, reverse, arith, sym, ap, ◌∙◌}
use Rattle.std.proofs.lemmas.List.{length-reverse, get_or-reverse, drop_more}

module _ {X : Type 0} (xs ys : List X) (view : reverse xs ≡ ys) (i : ℕ) (within : i < length ys) where
  long : length ys ≡ length xs
  long = sym (ap length view) ∙ length-reverse xs

  pub within_array : i < length xs
  within_array = omega (arith, within, long)

  -- the value there, and those above it
  pub one_more : (x : X) → x ≡ get_or xs i x → x ∷ drop (length ys - i) ys ≡ drop (length ys - (i + 1)) ys
  one_more x is =
      let n = length ys - (i + 1) in
      let lower : n < length xs = omega (arith, within, long) in
      let place : length xs - 1 - n ≡ i = omega (arith, within, long) in
      let next : n + 1 ≡ length ys - i = omega (arith, within) in
      let there : get_or ys n x ≡ x = ap (λ l. get_or l n x) (sym view) ∙ get_or-reverse xs n x lower ∙ ap (λ k. get_or xs k x) place ∙ sym is in
      ap (λ k. x ∷ drop k ys) (sym next)
      ∙ ap (λ y. y ∷ drop (n + 1) ys) (sym there)
      ∙ sym (drop_more ys n x (omega (arith, within)))
