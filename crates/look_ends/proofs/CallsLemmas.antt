-- Parts of a list of ends are ends.
use Rattle.std.proofs.Common.{◌≡◌, List, [], ◌∷◌, ◌++◌, sym, subst}
use Rattle.std.specs.Prelude.{IsPermutation}
use Rattle.std.specs.List.{Contains}
use Rattle.std.proofs.lemmas.List.Elements.{Contains-append_left, Contains-push}
use Rattle.std.proofs.lemmas.List.Sorted.{Contains-permutation, IsPermutation-sym}
use Rattle.ends_plain.specs.Listed.{AreEnds, IsEndOf}
use Rattle.ends_plain.specs.declared.config.Found.{Found}
use Rattle.ends_plain.specs.declared.config.Setting.{Setting}

-- in another order
pub ends_shuffled : (g : Setting) (xs ys : List Found) → IsPermutation xs ys → AreEnds g xs → AreEnds g ys
ends_shuffled g xs ys same all f h = all f (Contains-permutation ys xs f (IsPermutation-sym xs ys same) h)

-- without the last one
pub ends_front : (g : Setting) (all front : List Found) (f : Found) → all ≡ front ++ f ∷ [] → AreEnds g all → AreEnds g front
ends_front g all front f is ends e h = ends e (subst (λ xs. Contains xs e) (sym is) (Contains-append_left front (f ∷ []) e h))

-- the last one
pub ends_last : (g : Setting) (all front : List Found) (f : Found) → all ≡ front ++ f ∷ [] → AreEnds g all → IsEndOf g f
ends_last g all front f is ends = ends f (subst (λ xs. Contains xs f) (sym is) (Contains-push front f))
