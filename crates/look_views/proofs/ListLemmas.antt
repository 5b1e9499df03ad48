-- A list of values grows by what the next part of a list means.
use Rattle.std.proofs.Common.{◌≡◌, List, [], ◌∷◌, ◌++◌, map, sym, ap, ◌∙◌, append_assoc}
use Rattle.std.proofs.lemmas.List.{append-nil, map_push}
use Rattle.serde_json.specs.Data.{Data}

-- one value more
pub one_value : {X : Type 0} (f : X → Data) (old new : List X) (x : X) (d : Data) (part : List Data) → part ≡ d ∷ [] → f x ≡ d → new ≡ old ++ x ∷ [] → map f new ≡ map f old ++ part
one_value f old new x d part is same more =
    ap (λ l. map f l) more ∙ map_push f old x ∙ ap (λ y. map f old ++ y ∷ []) same ∙ ap (λ l. map f old ++ l) (sym is)

-- no value more
pub no_value : {X : Type 0} (f : X → Data) (old new : List X) (part : List Data) → part ≡ [] → new ≡ old → map f new ≡ map f old ++ part
no_value f old new part is same = ap (λ l. map f l) same ∙ sym (append-nil (map f old)) ∙ ap (λ l. map f old ++ l) (sym is)

-- the parts so far, and those of the rest
pub next_part : {X : Type 0} (f : X → Data) (old new : List X) (part rest left all : List Data) → map f old ++ left ≡ all → left ≡ part ++ rest → map f new ≡ map f old ++ part → map f new ++ rest ≡ all
next_part f old new part rest left all is step more =
    ap (λ l. l ++ rest) more ∙ append_assoc (map f old) part rest ∙ ap (λ l. map f old ++ l) (sym step) ∙ is
