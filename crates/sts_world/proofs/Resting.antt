-- The used parts of a frame, and the whole frame.
use Rattle.std.proofs.Common.{◌≡◌, ℕ, suc, ◌-◌, ◌≤◌, List, [], ◌∷◌, length, take, drop, reverse, replicate, get_or, true, refl, ap, arith, ◌∙◌, sym}
use Rattle.std.proofs.lemmas.Bool.{and_parts}
use Rattle.std.specs.List.{list_all}
use Rattle.std.proofs.lemmas.List.{length-reverse, reverse-reverse, take_rest}
use Rattle.std.proofs.Math.Seq.{take-length}
use Rattle.sts_model.proofs.ListLemmas.{reverse_take}
use Rattle.sts_model.specs.declared.record.Slot.{Slot}
use Rattle.sts_model.specs.declared.record.Slot.TheVariants.{Empty}
use Rattle.sts_model.specs.Misuse.{is_empty}

one_empty : (x : Slot) → is_empty x ≡ true → x ≡ Empty
one_empty Empty e = refl
one_empty _ e = cc

pub all_empty : (xs : List Slot) → list_all is_empty xs ≡ true → xs ≡ replicate (length xs) Empty
all_empty [] e = refl
all_empty (x ∷ xs) e =
    let parts = and_parts (is_empty x) (list_all is_empty xs) e in
    rw (one_empty x parts.0) (ap (λ (ys : List Slot). Empty ∷ ys) (all_empty xs parts.1))

-- all slots but the first are empty
pub sole_slot : (xs : List Slot) (n : ℕ) (d x : Slot) → length xs ≡ suc n → list_all is_empty (take n (drop 1 xs)) ≡ true → get_or xs 0 d ≡ x → xs ≡ x ∷ replicate n Empty
sole_slot [] n d x h e f = absurd (omega arith)
sole_slot (y ∷ ys) n d x h e f =
    let long : length ys ≡ n = omega arith in
    let all : take n ys ≡ ys = rw (← long) (take-length ys) in
    rw f (ap (λ (zs : List Slot). x ∷ zs) (all_empty ys (rw all at e) ∙ ap (λ m. replicate m Empty) long))

-- the last n elements, if the top is last, are the n topmost
pub topmost : {X : Type 0} (xs ys : List X) (n : ℕ) → reverse xs ≡ ys → n ≤ length ys → take (length xs - (length xs - n)) (drop (length xs - n) xs) ≡ reverse (take n ys)
topmost xs ys n e h =
    let as_long : length ys ≡ length xs = ap length (sym e) ∙ length-reverse xs in
    let back : reverse ys ≡ xs = ap reverse (sym e) ∙ reverse-reverse xs in
    let count : n ≡ length ys - (length xs - n) = omega arith in
    take_rest xs (length xs - n) ∙ sym (reverse_take ys (length xs - n) n count ∙ ap (drop (length xs - n)) back)
