-- Lists and numbers under other names.
use Rattle.std.proofs.Common.{◌≡◌, ℕ, zero, suc, ◌+◌, ◌<◌, ◌≤◌, List, [], ◌∷◌, ◌++◌, Bool, true, false, Option, Some, None}
use Rattle.std.proofs.Common.{refl, sym, ◌∙◌, ap, length, arith, set, cond, map, drop}
use Rattle.std.proofs.Math.Dec.{ltb}
use Rattle.std.specs.Prelude.{◌==◌, option_map, find}
use Rattle.std.specs.List.{sum_by}
use Rattle.std.proofs.lemmas.Bool.{ltb-true, eqb-false, eqb-true}
use Rattle.std.proofs.lemmas.Bool.Decides.{nat_tests}
use Rattle.std.proofs.lemmas.List.Sums.{sum_by-cons}
use Rattle.sts_model.specs.declared.record.Completion.{Completion}
use Rattle.sts_model.specs.Living.{completion_of, ends_of, is_in}
use Rattle.laws_names.specs.Names.{Names, IsOneToOne, named_completion}

-- ---- numbers

pub same_test : (f : ℕ → ℕ) → IsOneToOne f → (a b : ℕ) → (f a == f b) ≡ (a == b)
same_test f one a b = by (a == b) refl (f a == f b) refl
  where
    by : (x : Bool) → (a == b) ≡ x → (y : Bool) → (f a == f b) ≡ y → y ≡ x
    by true e true g = refl
    by false e false g = refl
    by true e false g = absurd (eqb-false (f a) (f b) g (ap f (eqb-true a b e)))
    by false e true g = absurd (eqb-false a b e (one a b (eqb-true (f a) (f b) g)))

pub in_named : (f : ℕ → ℕ) → IsOneToOne f → (s : ℕ) (o : Option ℕ) → is_in (f s) (option_map f o) ≡ is_in s o
in_named f one s None = refl
in_named f one s (Some r) = same_test f one r s

-- a number below the births has its name there
pub name_below : (f : ℕ → ℕ) → IsOneToOne f → (n : ℕ) → ((t : ℕ) → n ≤ t → f t ≡ t) → (t : ℕ) → t < n → f t < n
name_below f one n later t less = by (ltb (f t) n) refl
  where
    by : (b : Bool) → ltb (f t) n ≡ b → f t < n
    by true e = ltb-true (f t) n e
    by false e =
        let past : n ≤ f t = grind (arith, nat_tests) in
        let same : f t ≡ t = one (f t) t (later (f t) past) in
        absurd (omega (arith, same, past, less))

-- ---- lists

pub map_set : {X Y : Type 0} (f : X → Y) (xs : List X) (k : ℕ) (x : X) → map f (set xs k x) ≡ set (map f xs) k (f x)
map_set f [] k x = refl
map_set f (y ∷ ys) zero x = refl
map_set f (y ∷ ys) (suc k) x = ap (λ l. f y ∷ l) (map_set f ys k x)

pub map_drop : {X Y : Type 0} (f : X → Y) (k : ℕ) (xs : List X) → map f (drop k xs) ≡ drop k (map f xs)
map_drop f zero xs = refl
map_drop f (suc k) [] = refl
map_drop f (suc k) (x ∷ xs) = map_drop f k xs

pub map_push : {X Y : Type 0} (f : X → Y) (xs : List X) (x : X) → map f (xs ++ x ∷ []) ≡ map f xs ++ f x ∷ []
map_push f [] x = refl
map_push f (y ∷ ys) x = ap (λ l. f y ∷ l) (map_push f ys x)

pub map_length : {X Y : Type 0} (f : X → Y) (xs : List X) → length (map f xs) ≡ length xs
map_length f [] = refl
map_length f (x ∷ xs) = let h = map_length f xs in omega (arith, h)

pub sum_map : {X Y : Type 0} (q : Y → ℕ) (f : X → Y) (xs : List X) → sum_by q (map f xs) ≡ sum_by (λ x. q (f x)) xs
sum_map q f [] = refl
sum_map q f (x ∷ xs) = sum_by-cons q (f x) (map f xs) ∙ ap (λ m. q (f x) + m) (sum_map q f xs) ∙ sym (sum_by-cons (λ y. q (f y)) x xs)

pub sum_same : {X : Type 0} (q r : X → ℕ) → ((x : X) → q x ≡ r x) → (xs : List X) → sum_by q xs ≡ sum_by r xs
sum_same q r same [] = refl
sum_same q r same (x ∷ xs) = sum_by-cons q x xs ∙ ap (λ m. m + sum_by q xs) (same x) ∙ ap (λ m. r x + m) (sum_same q r same xs) ∙ sym (sum_by-cons r x xs)

-- ---- completions

pub ends_named : (n : Names) (cs : List Completion) → ends_of (map (named_completion n) cs) ≡ ends_of cs
ends_named n [] = refl
ends_named n (c ∷ cs) = ap (λ l. c.end ∷ l) (ends_named n cs)

pub completion_named : (n : Names) → IsOneToOne n.tasks → (cs : List Completion) (t : ℕ) → completion_of (map (named_completion n) cs) (n.tasks t) ≡ completion_of cs t
completion_named n one [] t = refl
completion_named n one (c ∷ cs) t =
    let rest = find (λ (x : Completion). x.task == n.tasks t) (map (named_completion n) cs) in
    ap (λ (b : Bool). option_map (λ (x : Completion). x.end) (cond b (Some (named_completion n c)) rest)) (same_test n.tasks one c.task t)
    ∙ by (c.task == t) (completion_named n one cs t)
  where
    by : (b : Bool) → completion_of (map (named_completion n) cs) (n.tasks t) ≡ completion_of cs t → option_map (λ (x : Completion). x.end) (cond b (Some (named_completion n c)) (find (λ (x : Completion). x.task == n.tasks t) (map (named_completion n) cs)))
        ≡ option_map (λ (x : Completion). x.end) (cond b (Some c) (find (λ (x : Completion). x.task == t) cs))
    by true h = refl
    by false h = h
