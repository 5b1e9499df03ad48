-- One more step of a task, and the steps of one more task.
use Rattle.std.proofs.Common.{◌≡◌, ℕ, suc, ◌+◌, ◌-◌, ◌<◌, List, [], ◌∷◌, ◌++◌, arith, ap, sym, ◌∙◌, append_assoc}
use Rattle.std.specs.Prelude.{replicate}
use Rattle.std.specs.List.{flat_map, range_with_len}

pub one_more : {A : Type 0} (xs ys all : List A) (x : A) (n k : ℕ) → k < n → ys ≡ xs ++ x ∷ [] → xs ++ replicate (n - k) x ≡ all → ys ++ replicate (n - (k + 1)) x ≡ all
one_more xs ys all x n k inside pushed before =
    let e : n - k ≡ suc (n - (k + 1)) = omega (arith, inside) in
    let rest = replicate (n - (k + 1)) x in
    ap (λ zs. zs ++ rest) pushed
    ∙ append_assoc xs (x ∷ []) rest
    ∙ ap (λ m. xs ++ replicate m x) (sym e)
    ∙ before

pub one_row : {A : Type 0} (f : ℕ → List A) (xs ys all : List A) (t m : ℕ) → t < m → ys ≡ xs ++ f t → xs ++ flat_map f (range_with_len t (m - t)) ≡ all → ys ++ flat_map f (range_with_len (t + 1) (m - (t + 1))) ≡ all
one_row f xs ys all t m inside added before =
    let e : m - t ≡ suc (m - (t + 1)) = omega (arith, inside) in
    let rest = flat_map f (range_with_len (t + 1) (m - (t + 1))) in
    ap (λ zs. zs ++ rest) added
    ∙ append_assoc xs (f t) rest
    ∙ ap (λ n. xs ++ flat_map f (range_with_len t n)) (sym e)
    ∙ before
