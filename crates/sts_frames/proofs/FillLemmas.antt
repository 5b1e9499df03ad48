-- A stack that is filled from its bottom: so far it is the end of the list that it is filled from.
use Rattle.std.proofs.Common.{◌≡◌, ℕ, ◌+◌, ◌-◌, ◌<◌, ◌≤◌, List, [], ◌∷◌, length, drop, get_or, arith, ap, ◌∙◌, sym}
use Rattle.std.proofs.Math.Seq.{drop-length}
use Rattle.std.proofs.lemmas.List.{drop_more, length-drop}

pub nothing_yet : {X : Type 0} (xs : List X) (len : ℕ) → len ≡ length xs → drop (len - 0) xs ≡ []
nothing_yet xs len l =
    let all : len - 0 ≡ length xs = omega (arith, l) in
    ap (λ k. drop k xs) all ∙ drop-length xs

-- after i of them there is room for one more
pub has_room_for_one : {X : Type 0} (xs ys : List X) (len most i : ℕ) → len ≡ length xs → len ≤ most → i < len → ys ≡ drop (len - i) xs → length ys < most
has_room_for_one xs ys len most i l m h e =
    omega (arith, l, m, h, ap length e ∙ length-drop (len - i) xs)

pub one_more : {X : Type 0} (xs ys : List X) (len i : ℕ) (x d : X) → len ≡ length xs → i < len → ys ≡ drop (len - i) xs → x ≡ get_or xs (len - 1 - i) d → x ∷ ys ≡ drop (len - (i + 1)) xs
one_more xs ys len i x d l h e is =
    let before : len - (i + 1) < length xs = omega (arith, l, h) in
    let at : len - 1 - i ≡ len - (i + 1) = omega arith in
    let next : len - i ≡ len - (i + 1) + 1 = omega (arith, h) in
    ap (λ r. r ∷ ys) (is ∙ ap (λ k. get_or xs k d) at)
    ∙ ap (λ r. get_or xs (len - (i + 1)) d ∷ r) (e ∙ ap (λ k. drop k xs) next)
    ∙ sym (drop_more xs (len - (i + 1)) d before)

pub all_now : {X : Type 0} (xs ys : List X) (len i : ℕ) → len ≤ i → ys ≡ drop (len - i) xs → ys ≡ xs
all_now xs ys len i h e =
    let none : len - i ≡ 0 = omega (arith, h) in
    e ∙ ap (λ k. drop k xs) none
