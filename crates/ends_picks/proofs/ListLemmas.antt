-- Elements of lists.
use Rattle.std.proofs.Common.{◌≡◌, ℕ, zero, suc, ◌<◌, ◌≤◌, List, [], ◌∷◌, ◌++◌, Option, Some, None, refl, sym, subst, arith, length, get_or, inl, inr}
use Rattle.std.specs.Prelude.{All}
use Rattle.std.specs.List.{AllWithin}
use Rattle.std.proofs.lemmas.List.Elements.{All-head, All-tail, All-from_all_within, AllWithin-upto}
use Rattle.sts_model.specs.declared.event.End.{End}
use Rattle.laws_calls.specs.declared.table.Way.{Way}
use Rattle.laws_calls.specs.Tasks.{Among, AllTwo, HasWay}

pub among_at : {X : Type 0} (xs : List X) (i : ℕ) (x : X) → i < length xs → x ≡ get_or xs i x → Among xs x
among_at [] i x less e = absurd (omega (arith, less))
among_at (y ∷ ys) zero x less e = inl (sym e)
among_at (y ∷ ys) (suc i) x less e = inr (among_at ys i x (omega (arith, less)) e)

pub among_in : {X : Type 0} (xs : List X) (i : ℕ) (y x : X) → i < length xs → y ≡ get_or xs i y → y ≡ x → Among xs x
among_in xs i y x less is same = subst (λ z. Among xs z) same (among_at xs i y less is)

pub all_among : {X : Type 0} (P : X → Type 0) (xs : List X) (x : X) → All P xs → Among xs x → P x
all_among P [] x all at = absurd at
all_among P (y ∷ ys) x all (inl e) = subst P e (All-head P y ys all)
all_among P (y ∷ ys) x all (inr at) = all_among P ys x (All-tail P y ys all) at

-- what holds of each element up to the last
pub each_among : {X : Type 0} (P : X → Type 0) (xs : List X) (i : ℕ) → length xs ≤ i → AllWithin P xs 0 i → (x : X) → Among xs x → P x
each_among P xs i done all x at = all_among P xs x (All-from_all_within P xs (AllWithin-upto P xs 0 i (length xs) done all)) at

pub among_first : {X : Type 0} (xs ys : List X) (x : X) → Among xs x → Among (xs ++ ys) x
among_first [] ys x at = absurd at
among_first (y ∷ xs) ys x (inl e) = inl e
among_first (y ∷ xs) ys x (inr at) = inr (among_first xs ys x at)

pub among_last : {X : Type 0} (xs : List X) (x : X) → Among (xs ++ x ∷ []) x
among_last [] x = inl refl
among_last (y ∷ xs) x = inr (among_last xs x)

-- two lists, place by place
pub two_at : {X Y : Type 0} (R : X → Y → Type 0) (xs : List X) (ys : List Y) (i : ℕ) (x : X) (y : Y) → AllTwo R xs ys → i < length xs → R (get_or xs i x) (get_or ys i y)
two_at R [] [] i x y h less = absurd (omega (arith, less))
two_at R (a ∷ xs) (b ∷ ys) zero x y h less = h.0
two_at R (a ∷ xs) (b ∷ ys) (suc i) x y h less = two_at R xs ys i x y h.1 (omega (arith, less))
two_at R [] (b ∷ ys) i x y h less = absurd h
two_at R (a ∷ xs) [] i x y h less = absurd h

pub among_get : {X : Type 0} (xs : List X) (i : ℕ) (d x : X) → i < length xs → get_or xs i d ≡ x → Among xs x
among_get [] i d x less e = absurd (omega (arith, less))
among_get (y ∷ ys) zero d x less e = inl e
among_get (y ∷ ys) (suc i) d x less e = inr (among_get ys i d x (omega (arith, less)) e)

-- what holds of each way holds of each end that has one
pub all_ways : (P : End → Type 0) (ways : List Way) (e : End) → All (λ (way : Way). P way.end) ways → HasWay ways e → P e
all_ways P [] e all h = absurd h
all_ways P (way ∷ ways) e all (inl same) = subst P same (All-head (λ (w : Way). P w.end) way ways all)
all_ways P (way ∷ ways) e all (inr h) = all_ways P ways e (All-tail (λ (w : Way). P w.end) way ways all) h

-- what holds of each way of a slice that has the list
pub each_way : (P : End → Type 0) (items ways : List Way) (i : ℕ) → items ≡ ways → length items ≤ i → AllWithin (λ (way : Way). P way.end) items 0 i → (e : End) → HasWay ways e → P e
each_way P items ways i same done all e way =
    let whole = All-from_all_within (λ (w : Way). P w.end) items (AllWithin-upto (λ (w : Way). P w.end) items 0 i (length items) done all) in
    all_ways P items e whole (subst (λ ws. HasWay ws e) (sym same) way)

pub by_state : {X : Type 0} (P : Option X → Type 0) → P None → ((x : X) → P (Some x)) → (q : Option X) → P q
by_state P none some None = none
by_state P none some (Some x) = some x

pub way_in : (ways : List Way) (i : ℕ) (d : Way) (e : End) → i < length ways → (get_or ways i d).end ≡ e → HasWay ways e
way_in [] i d e less same = absurd (omega (arith, less))
way_in (y ∷ ys) zero d e less same = inl same
way_in (y ∷ ys) (suc i) d e less same = inr (way_in ys i d e (omega (arith, less)) same)
