-- Lists by birth with holes: one record changed, and the view of each.
use Rattle.std.proofs.Common.{◌≡◌, ◌≢◌, ℕ, zero, suc, ◌<◌, List, [], ◌∷◌, length, map, Option, Some, None, refl, sym, ◌∙◌, ap, arith, get_or, set}
use Rattle.std.proofs.lemmas.List.{map-set, set-get_or}
use Rattle.std.specs.Prelude.{option_map}
use Rattle.sts_records.specs.Holes.{key_at}
use Rattle.laws_words.proofs.OptionLemmas.{some_mapped}
use Rattle.sts_tree.specs.declared.record.TaskRecord.{TaskRecord}
use Rattle.sts_tree.specs.Stored.{link_at}

-- what is seen of each record
pub map_at : {A B : Type 0} → (f : A → B) (xs : List (Option A)) (k : ℕ) → get_or (map (option_map f) xs) k None ≡ option_map f (get_or xs k None)
map_at f [] k = refl
map_at f (x ∷ xs) zero = refl
map_at f (x ∷ xs) (suc k) = map_at f xs k

-- a part of a record is changed that isn't seen
pub unseen : {A B : Type 0} → (f : A → B) (xs : List (Option A)) (k : ℕ) (x y : A) → get_or xs k None ≡ Some x → f y ≡ f x → map (option_map f) (set xs k (Some y)) ≡ map (option_map f) xs
unseen f xs k x y at same =
    let e : get_or (map (option_map f) xs) k None ≡ Some (f y) = map_at f xs k ∙ ap (option_map f) at ∙ ap (λ z. Some z) (sym same) in
    map-set (option_map f) xs k (Some y) ∙ ap (λ z. set (map (option_map f) xs) k z) (sym e) ∙ set-get_or (map (option_map f) xs) k None

pub key_seen : {A B : Type 0} → (f : A → B) (xs : List (Option A)) (keys : List ℕ) (k : ℕ) → key_at (map (option_map f) xs) keys k ≡ key_at xs keys k
key_seen f xs keys k = rw (map_at f xs k, some_mapped f (get_or xs k None)) refl

pub inside_of : {A : Type 0} → (xs : List (Option A)) (k : ℕ) → get_or xs k None ≢ None → k < length xs
inside_of [] k h = absurd (h refl)
inside_of (x ∷ xs) zero h = omega arith
inside_of (x ∷ xs) (suc k) h = let i = inside_of xs k h in omega (arith, i)

pub no_link : (slots : List (Option TaskRecord)) (l k : ℕ) → get_or slots k None ≡ None → link_at slots l k ≡ None
no_link slots l k e = rw e refl
