-- Lists that have a place.
use Rattle.std.proofs.Common.{◌≡◌, ℕ, inl, inr, Bool, false, List, [], ◌∷◌, ◌++◌, sym, ap, ◌∙◌}
use Rattle.std.specs.List.{list_any}
use Rattle.std.proofs.lemmas.Bool.{or_parts}
use Rattle.sts_rules.specs.ControlPaths.{Among}

pub among_left : (xs ys : List ℕ) (to : ℕ) → Among xs to → Among (xs ++ ys) to
among_left [] ys to m = elim m [ ]
among_left (x ∷ xs) ys to (inl e) = inl e
among_left (x ∷ xs) ys to (inr m) = inr (among_left xs ys to m)

pub among_right : (xs ys : List ℕ) (to : ℕ) → Among ys to → Among (xs ++ ys) to
among_right [] ys to m = m
among_right (x ∷ xs) ys to m = inr (among_right xs ys to m)

-- a test that no place passes
pub none_passes : (test : ℕ → Bool) (xs : List ℕ) (to : ℕ) → list_any test xs ≡ false → Among xs to → test to ≡ false
none_passes test [] to e m = elim m [ ]
none_passes test (x ∷ xs) to e (inl same) = ap test (sym same) ∙ (or_parts (test x) (list_any test xs) e).0
none_passes test (x ∷ xs) to e (inr m) = none_passes test xs to (or_parts (test x) (list_any test xs) e).1 m
