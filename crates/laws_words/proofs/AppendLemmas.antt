-- What was appended part by part, and what is left to append.
use Rattle.std.proofs.Common.{◌≡◌, ℕ, ◌+◌, ◌<◌, ◌≤◌, List, [], ◌∷◌, ◌++◌, length, get_or, drop, replicate, sym, ap, ◌∙◌, append_assoc}
use Rattle.std.specs.List.{flat_map}
use Rattle.std.proofs.lemmas.List.{append-nil, at_drop_all, at_drop_more, replicate_more}

-- two parts, one after the other
pub two_parts : (old a b m n : List ℕ) → m ≡ old ++ a → n ≡ m ++ b → n ≡ old ++ (a ++ b)
two_parts old a b m n first second = second ∙ ap (λ (xs : List ℕ). xs ++ b) first ∙ append_assoc old a b

-- and three
pub three_said : (a b d before one two three : List ℕ) → one ≡ before ++ a → two ≡ one ++ b → three ≡ two ++ d → three ≡ before ++ (a ++ (b ++ d))
three_said a b d before one two three e f g = two_parts before a (b ++ d) one three e (two_parts one b d two three f g)

-- one part of what was left
pub part_said : (out next part rest left all : List ℕ) → out ++ left ≡ all → left ≡ part ++ rest → next ≡ out ++ part → next ++ rest ≡ all
part_said out next part rest left all is step more =
    ap (λ (l : List ℕ). l ++ rest) more ∙ append_assoc out part rest ∙ ap (λ (l : List ℕ). out ++ l) (sym step) ∙ is

-- one item of those that were left
pub item_said : {X : Type 0} (f : X → List ℕ) (xs : List X) (i : ℕ) (d : X) (all out next : List ℕ) → i < length xs → out ++ flat_map f (drop i xs) ≡ all → next ≡ out ++ f (get_or xs i d) → next ++ flat_map f (drop (i + 1) xs) ≡ all
item_said f xs i d all out next less is more =
    part_said out next (f (get_or xs i d)) (flat_map f (drop (i + 1) xs)) (flat_map f (drop i xs)) all is (at_drop_more (flat_map f) xs i d less) more

-- no item is left
pub items_said : {X : Type 0} (f : X → List ℕ) (xs : List X) (i : ℕ) (all out : List ℕ) → length xs ≤ i → out ++ flat_map f (drop i xs) ≡ all → out ≡ all
items_said f xs i all out past is = sym (append-nil out) ∙ ap (λ l. out ++ l) (sym (at_drop_all (flat_map f) xs i past)) ∙ is

-- ---- the same element again and again

pub one_more : {X : Type 0} (x : X) (n : ℕ) (old new : List X) → old ≡ replicate n x → new ≡ old ++ x ∷ [] → new ≡ replicate (n + 1) x
one_more x n old new is e = e ∙ ap (λ l. l ++ x ∷ []) is ∙ replicate_more n x

pub all_there : {X : Type 0} (x : X) (n k : ℕ) (new : List X) → k ≡ n → new ≡ replicate k x → new ≡ replicate n x
all_there x n k new same is = is ∙ ap (λ m. replicate m x) same
