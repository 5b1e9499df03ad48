use Rattle.std.proofs.Common.{◌≡◌, List, ◌∷◌, ◌++◌, [], ◌∙◌}
use Rattle.std.specs.Prelude.{Result, Ok, Err}
use Rattle.sts_asm.specs.declared.fault.AsmError.{AsmError}
use Rattle.sts_asm.specs.Fault.{◌>>=◌}
use Rattle.sts_asm.proofs.TextLemmas.{ok_bind, bind_ok}
use Rattle.sts_asm.specs.Text.{each}

-- the results so far, in front of those of the rest
abbrev pub with_front : {B : Type 0} → List B → Result (List B) AsmError → Result (List B) AsmError
with_front front (Ok ys) = Ok (front ++ ys)
with_front front (Err e) = Err e

-- what each is read as stays, if each is read alike
pub each_later : {A B : Type 0} (read next : A → Result B AsmError) → ((x : A) (y : B) → read x ≡ Ok y → next x ≡ Ok y) → (xs : List A) (ys : List B) → each read xs ≡ Ok ys → each next xs ≡ Ok ys
each_later read next same [] ys e = e
each_later read next same (x ∷ xs) ys e =
    let a = bind_ok (read x) (λ y. each read xs >>= λ rest. Ok (y ∷ rest)) ys e in
    let b = bind_ok (each read xs) (λ rest. Ok (a.0 ∷ rest)) ys a.2 in
    ok_bind (next x) (λ y. each next xs >>= λ rest. Ok (y ∷ rest)) a.0 (same x a.0 a.1)
    ∙ ok_bind (each next xs) (λ rest. Ok (a.0 ∷ rest)) b.0 (each_later read next same xs b.0 b.1) ∙ b.2
