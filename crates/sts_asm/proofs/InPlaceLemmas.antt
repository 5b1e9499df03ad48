use Rattle.std.proofs.Common.{◌≡◌, ℕ, suc, ◌+◌, get_or, drop-cons, ◌<◌, List, [], ◌∷◌, ◌++◌, length, drop, refl, sym, ◌∙◌, ap, arith}
use Rattle.std.specs.Prelude.{Result, Ok, Err}
use Rattle.std.proofs.lemmas.List.{append_assoc}
use Rattle.sts_asm.specs.declared.fault.AsmError.{AsmError}
use Rattle.sts_asm.specs.Fault.{◌>>=◌}
use Rattle.sts_asm.specs.Text.{each}
use Rattle.sts_asm.proofs.EachLemmas.{with_front}
use Rattle.sts_asm.proofs.TextLemmas.{ok_bind}

pub moved : {B : Type 0} (front : List B) (y : B) (r : Result (List B) AsmError) → with_front (front ++ y ∷ []) r ≡ with_front front (r >>= λ ys. Ok (y ∷ ys))
moved front y (Ok ys) = ap (λ (zs : List _). Ok zs) (append_assoc front (y ∷ []) ys)
moved front y (Err e) = refl

-- the next result is appended to the results so far
pub next_read : {A B : Type 0} (read : A → Result B AsmError) (front : List B) (x : A) (y : B) (rest : List A) (whole : Result (List B) AsmError) → with_front front (each read (x ∷ rest)) ≡ whole → read x ≡ Ok y → with_front (front ++ y ∷ []) (each read rest) ≡ whole
next_read read front x y rest whole e h =
    moved front y (each read rest) ∙ sym (ap (with_front front) (ok_bind (read x) (λ z. each read rest >>= λ ys. Ok (z ∷ ys)) y h)) ∙ e

pub next_of : {A : Type 0} (xs : List A) (i : ℕ) (d x : A) → i < length xs → x ≡ get_or xs i d → drop i xs ≡ x ∷ drop (i + 1) xs
next_of xs i d x small is =
    let one : suc i ≡ i + 1 = omega arith in
    drop-cons xs i d small ∙ ap (λ y. y ∷ drop (suc i) xs) (sym is) ∙ ap (λ n. x ∷ drop n xs) one
