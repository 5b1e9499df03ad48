-- Places, ways and elements of lists.
use Rattle.std.proofs.Common.{◌≡◌, ℕ, zero, suc, ◌+◌, ◌<◌, List, [], ◌∷◌, Bool, true, false, Some, refl, sym, ◌∙◌, ap, subst, arith, length, get_or, set, cond}
use Rattle.std.specs.Prelude.{◌==◌, nat_eq, slice_get}
use Rattle.std.proofs.lemmas.Bool.Decides.{nat_tests}
use Rattle.sts_model.specs.declared.event.End.{End}
use Rattle.laws_calls.specs.Tasks.{at_place, put_place, HasWay}
use Rattle.laws_calls.specs.declared.table.Part.{Part}
use Rattle.laws_calls.specs.declared.table.Seen.{Seen}
use Rattle.laws_calls.specs.Steps.{MayEnd}

-- ---- places

-- the element at an index is that at its place
pub at_index : {X : Type 0} (xs : List X) (place i : ℕ) (x : X) → length xs ≡ place + i + 1 → x ≡ get_or xs i x → at_place xs place ≡ Some x
at_index [] place i x n e = absurd (omega (arith, n))
at_index {X} (y ∷ ys) place zero x n e = by (place == length ys) refl
  where
    by : (b : Bool) → (place == length ys) ≡ b → cond b (Some y) (at_place ys place) ≡ Some x
    by true d = ap Some (sym e)
    by false d = absurd (grind (arith, nat_tests))
at_index {X} (y ∷ ys) place (suc i) x n e = by (place == length ys) refl (at_index ys place i x (omega (arith, n)) e)
  where
    by : (b : Bool) → (place == length ys) ≡ b → at_place ys place ≡ Some x → cond b (Some y) (at_place ys place) ≡ Some x
    by true d rest = absurd (grind (arith, nat_tests))
    by false d rest = rest

-- and so it is replaced
pub put_index : {X : Type 0} (xs : List X) (place i : ℕ) (x : X) → length xs ≡ place + i + 1 → put_place xs place x ≡ set xs i x
put_index [] place i x n = absurd (omega (arith, n))
put_index {X} (y ∷ ys) place zero x n = by (place == length ys) refl
  where
    by : (b : Bool) → (place == length ys) ≡ b → cond b (x ∷ ys) (y ∷ put_place ys place x) ≡ x ∷ ys
    by true d = refl
    by false d = absurd (grind (arith, nat_tests))
put_index {X} (y ∷ ys) place (suc i) x n = by (place == length ys) refl (put_index ys place i x (omega (arith, n)))
  where
    by : (b : Bool) → (place == length ys) ≡ b → put_place ys place x ≡ set ys i x → cond b (x ∷ ys) (y ∷ put_place ys place x) ≡ y ∷ set ys i x
    by true d rest = absurd (grind (arith, nat_tests))
    by false d rest = ap (λ zs. y ∷ zs) rest

-- ---- parts

pub get_same : {X : Type 0} (xs : List X) (i : ℕ) (x y : X) → slice_get xs i ≡ Some x → y ≡ get_or xs i y → x ≡ y
get_same [] i x y e is = cc
get_same (z ∷ zs) zero x y e is = cc
get_same (z ∷ zs) (suc i) x y e is = get_same zs i x y e is

-- one part more was looked at
pub parts_more : (seen : Seen) (i : ℕ) (x : Part) (P : ℕ → Part → End → Type 0) → x ≡ get_or seen.parts i x → ((k : ℕ) (part : Part) (e : End) → k < i → MayEnd seen k part e → P k part e) → ((e : End) → HasWay x.ways e → P i x e) → (k : ℕ) (part : Part) (e : End) → k < i + 1 → MayEnd seen k part e → P k part e
parts_more seen i x P is before here k part e low may = by (nat_eq k i) refl
  where
    by : (b : Bool) → nat_eq k i ≡ b → P k part e
    by true d =
        let same : k ≡ i = grind (arith, nat_tests) in
        let known : slice_get seen.parts i ≡ Some part = subst (λ j. slice_get seen.parts j ≡ Some part) same may.known in
        let one : x ≡ part = sym (get_same seen.parts i part x known is) in
        let way : HasWay x.ways e = subst (λ (z : Part). HasWay z.ways e) (sym one) may.way in
        subst (λ j. P j part e) (sym same) (subst (λ z. P i z e) one (here e way))
    by false d = before k part e (grind (arith, nat_tests)) may

-- the same where a slice has the list
pub at_index_in : {X : Type 0} (ys xs : List X) (place i : ℕ) (x : X) → ys ≡ xs → length ys ≡ place + i + 1 → x ≡ get_or ys i x → at_place xs place ≡ Some x
at_index_in ys xs place i x same n is = subst (λ zs. at_place zs place ≡ Some x) same (at_index ys place i x n is)

pub put_index_in : {X : Type 0} (ys xs zs : List X) (place i : ℕ) (x : X) → ys ≡ xs → length ys ≡ place + i + 1 → zs ≡ set ys i x → zs ≡ put_place xs place x
put_index_in ys xs zs place i x same n is = is ∙ ap (λ l. set l i x) same ∙ sym (put_index xs place i x (ap length (sym same) ∙ n))
