-- Births and counts of lists of lines: with one more line, with another line, and with one more
-- closed scope.
use Rattle.std.proofs.Common.{◌≡◌, ℕ, zero, suc, ◌+◌, ◌<◌, ◌≤◌, List, [], ◌∷◌, ◌++◌, length, count_by, Bool, true, false, cond, not, ◌&&◌, Option, Some, None}
use Rattle.std.proofs.Common.{eqb, refl, ap, sym, ◌∙◌, arith, get_or, set}
use Rattle.std.proofs.lemmas.Bool.{eqb-true, eqb-false, ne_eqb}
use Rattle.std.proofs.lemmas.List.{get_or-set_same, get_or-set_other}
use Rattle.std.proofs.lemmas.List.Sums.{sum_by-cons, sum_by-le-sum_by, count_by-le-length}
use Rattle.sts_model.specs.Living.{is_in}
use Rattle.sts_world.specs.Lines.{Line}
use Rattle.sts_world.specs.Kept.{births_from, births, count_in, stands, no_line}

-- what a test counts as
abbrev pub as_one : {X : Type 0} → (X → Bool) → X → ℕ
as_one p x = cond (p x) 1 0

-- ---- births

one_birth : (b : Bool) (n k : ℕ) (xs : List ℕ) → length xs ≡ n → length (cond b (k ∷ xs) xs) ≡ cond b 1 0 + n
one_birth true n k xs e = omega arith
one_birth false n k xs e = omega arith

pub births_count : (s n : ℕ) (xs : List Line) → length (births_from s n xs) ≡ count_in s xs
births_count s n [] = refl
births_count s n (x ∷ xs) =
    one_birth (is_in s x.scope) (count_in s xs) n (births_from s (n + 1) xs) (births_count s (n + 1) xs)
    ∙ sym (sum_by-cons (as_one (λ (l : Line). is_in s l.scope)) x xs)

pub births-le-length : (s : ℕ) (xs : List Line) → length (births s xs) ≤ length xs
births-le-length s xs = omega (arith, births_count s 0 xs, count_by-le-length (λ (x : Line). is_in s x.scope) xs)

-- another line of the same scope
pub births-set : (s n : ℕ) (xs : List Line) (t : ℕ) (y d : Line) → y.scope ≡ (get_or xs t d).scope → births_from s n (set xs t y) ≡ births_from s n xs
births-set s n [] t y d e = refl
births-set s n (x ∷ xs) zero y d e = rw e refl
births-set s n (x ∷ xs) (suc t) y d e = rw (births-set s (n + 1) xs t y d e) refl

after_none : (b : Bool) (n : ℕ) (xs ys zs : List ℕ) → ys ≡ xs ++ zs → cond b (n ∷ ys) ys ≡ cond b (n ∷ xs) xs ++ zs
after_none true n xs ys zs e = rw e refl
after_none false n xs ys zs e = e

-- one more line
pub births_push : (s n m : ℕ) (xs : List Line) (y : Line) → m ≡ n + length xs → births_from s n (xs ++ y ∷ []) ≡ births_from s n xs ++ cond (is_in s y.scope) (m ∷ []) []
births_push s n m [] y e = let same : m ≡ n = omega arith in rw same refl
births_push s n m (x ∷ xs) y e =
    after_none (is_in s x.scope) n (births_from s (n + 1) xs) (births_from s (n + 1) (xs ++ y ∷ [])) _ (births_push s (n + 1) m xs y (omega arith))

-- ---- standing

none : (was b : Bool) (n : ℕ) → n + cond was 0 0 ≡ n + cond b 0 0
none true true n = refl
none true false n = refl
none false true n = refl
none false false n = refl

apart : (s r : ℕ) (closed : List Bool) (b : Bool) → s < length closed → (t : Bool) → eqb r s ≡ t → cond (not (get_or (set closed s b) r true)) 1 0 + cond (get_or closed s true) 0 (cond t 1 0) ≡ cond (not (get_or closed r true)) 1 0 + cond b 0 (cond t 1 0)
apart s r closed b h true e =
    let same : r ≡ s = eqb-true r s e in
    rw (same, get_or-set_same closed s b true h) (shut b (get_or closed s true))
  where
    shut : (b was : Bool) → cond (not b) 1 0 + cond was 0 1 ≡ cond (not was) 1 0 + cond b 0 1
    shut true true = refl
    shut true false = refl
    shut false true = refl
    shut false false = refl
apart s r closed b h false e =
    rw (get_or-set_other closed s r b true (eqb-false r s e)) (none (get_or closed s true) b _)

-- the count of one line, when a scope is closed or opened again
one_stands : (s : ℕ) (closed : List Bool) (b : Bool) (o : Option ℕ) → s < length closed → cond (stands (set closed s b) o) 1 0 + cond (get_or closed s true) 0 (cond (is_in s o) 1 0) ≡ cond (stands closed o) 1 0 + cond b 0 (cond (is_in s o) 1 0)
one_stands s closed b None h = none (get_or closed s true) b 1
one_stands s closed b (Some r) h = apart s r closed b h (eqb r s) refl

sums : (was b : Bool) (a c d e f g : ℕ) → a + cond was 0 c ≡ d + cond b 0 c → e + cond was 0 f ≡ g + cond b 0 f → (a + e) + cond was 0 (c + f) ≡ (d + g) + cond b 0 (c + f)
sums true true a c d e f g h k = omega arith
sums true false a c d e f g h k = omega arith
sums false true a c d e f g h k = omega arith
sums false false a c d e f g h k = omega arith

-- closing a scope takes its subtasks from those that count
pub stands-set : (s : ℕ) (closed : List Bool) (b : Bool) (xs : List Line) → s < length closed → count_by (λ (x : Line). stands (set closed s b) x.scope) xs + cond (get_or closed s true) 0 (count_in s xs) ≡ count_by (λ (x : Line). stands closed x.scope) xs + cond b 0 (count_in s xs)
stands-set s closed b [] h = none (get_or closed s true) b 0
stands-set s closed b (x ∷ xs) h =
    rw (sum_by-cons (as_one (λ (l : Line). stands (set closed s b) l.scope)) x xs, sum_by-cons (as_one (λ (l : Line). stands closed l.scope)) x xs, sum_by-cons (as_one (λ (l : Line). is_in s l.scope)) x xs)
    (sums (get_or closed s true) b _ _ _ _ _ _ (one_stands s closed b x.scope h) (stands-set s closed b xs h))

past_none : (closed : List Bool) (r : ℕ) → eqb r (length closed) ≡ false → get_or (closed ++ false ∷ []) r true ≡ get_or closed r true
past_none [] zero e = cc
past_none [] (suc r) e = refl
past_none (c ∷ cs) zero e = refl
past_none (c ∷ cs) (suc r) e = past_none cs r (ne_eqb r (length cs) (λ h. eqb-false (suc r) (length (c ∷ cs)) e (omega (arith, h))))

no_birth : (b : Bool) (n : ℕ) (xs : List ℕ) → cond b (n ∷ xs) xs ≡ [] → (b ≡ false) × (xs ≡ [])
no_birth true n xs e = cc
no_birth false n xs e = (refl, e)

stands_past : (closed : List Bool) (o : Option ℕ) → is_in (length closed) o ≡ false → stands (closed ++ false ∷ []) o ≡ stands closed o
stands_past closed None e = refl
stands_past closed (Some r) e = ap not (past_none closed r e)

-- one more scope, which no task is in
pub stands_push : (closed : List Bool) (n : ℕ) (xs : List Line) → births_from (length closed) n xs ≡ [] → count_by (λ (x : Line). stands (closed ++ false ∷ []) x.scope) xs ≡ count_by (λ (x : Line). stands closed x.scope) xs
stands_push closed n [] e = refl
stands_push closed n (x ∷ xs) e =
    let apart : (is_in (length closed) x.scope ≡ false) × (births_from (length closed) (n + 1) xs ≡ []) = no_birth (is_in (length closed) x.scope) n (births_from (length closed) (n + 1) xs) e in
    sum_by-cons (as_one (λ (l : Line). stands (closed ++ false ∷ []) l.scope)) x xs
    ∙ ap (λ b. cond b 1 0 + count_by (λ (l : Line). stands (closed ++ false ∷ []) l.scope) xs) (stands_past closed x.scope apart.0)
    ∙ ap (λ n. cond (stands closed x.scope) 1 0 + n) (stands_push closed (n + 1) xs apart.1)
    ∙ sym (sum_by-cons (as_one (λ (l : Line). stands closed l.scope)) x xs)

-- ---- bounds

pub and_le : (a b : Bool) → cond (a && b) 1 0 ≤ cond a 1 0
and_le true true = omega arith
and_le true false = omega arith
and_le false b = omega arith

stands_here : (closed : List Bool) (s r : ℕ) → get_or closed s true ≡ false → (t : Bool) → eqb r s ≡ t → cond t 1 0 ≤ cond (not (get_or closed r true)) 1 0
stands_here closed s r e true f = let same : r ≡ s = eqb-true r s f in rw (same, e) (omega arith)
stands_here closed s r e false f = omega arith

in_stands : (closed : List Bool) (s : ℕ) (o : Option ℕ) → get_or closed s true ≡ false → cond (is_in s o) 1 0 ≤ cond (stands closed o) 1 0
in_stands closed s None e = omega arith
in_stands closed s (Some r) e = stands_here closed s r e (eqb r s) refl

-- the subtasks of an open scope count, and so does the root
pub root_besides : (closed : List Bool) (s : ℕ) (xs : List Line) → get_or closed s true ≡ false → 0 < length xs → (get_or xs 0 no_line).scope ≡ None → count_in s xs + 1 ≤ count_by (λ (x : Line). stands closed x.scope) xs
root_besides closed s [] e h root = absurd (omega arith)
root_besides closed s (x ∷ xs) e h root =
    let among : count_in s xs ≤ count_by (λ (y : Line). stands closed y.scope) xs = sum_by-le-sum_by (as_one (λ (y : Line). is_in s y.scope)) (as_one (λ (y : Line). stands closed y.scope)) xs (λ y. in_stands closed s y.scope e) in
    rw (sum_by-cons (as_one (λ (y : Line). is_in s y.scope)) x xs, sum_by-cons (as_one (λ (y : Line). stands closed y.scope)) x xs, root) (omega (arith, among))
