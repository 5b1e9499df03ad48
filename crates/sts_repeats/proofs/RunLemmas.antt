-- The values that runs stand for.
use Rattle.std.proofs.Common.{◌≡◌, ℕ, zero, suc, ◌+◌, ◌-◌, ◌*◌, ◌<◌, ◌≤◌, List, [], ◌∷◌, ◌++◌, Bool, true, false, Some, refl, sym, ◌∙◌, ap, subst, arith, length, get_or, set, take, drop, replicate, cond, append_assoc, ◌&&◌, ◌||◌}
use Rattle.std.specs.Prelude.{slice_get, count_by, map}
use Rattle.std.specs.List.{list_all, list_any}
use Rattle.std.proofs.lemmas.List.{take_more, take-append-drop, map-append, append-nil, length-append, length-replicate, set_split, set-append_left, set-append_right, replicate-append-replicate}
use Rattle.std.proofs.lemmas.List.Sums.{sum_by-append}
use Rattle.std.proofs.lemmas.List.Folds.{sum_by-replicate}
use Rattle.std.proofs.lemmas.Option.{slice_get-get_or}
use Rattle.laws_words.proofs.ListLemmas.{drop_past}
use Rattle.sts_repeats.specs.Spread.{spread, changed}
use Rattle.sts_repeats.specs.declared.runs.Run.{Run}

-- the values of one run
abbrev pub one : {X : Type 0} → Run X → List X
one run = run.value ∷ replicate run.more run.value

pub spread_append : {X : Type 0} (xs ys : List (Run X)) → spread (xs ++ ys) ≡ spread xs ++ spread ys
spread_append [] ys = refl
spread_append (r ∷ xs) ys =
    ap (λ l. r.value ∷ replicate r.more r.value ++ l) (spread_append xs ys)
    ∙ ap (λ l. r.value ∷ l) (sym (append_assoc (replicate r.more r.value) (spread xs) (spread ys)))

pub spread_push : {X : Type 0} (xs : List (Run X)) (run : Run X) → spread (xs ++ run ∷ []) ≡ spread xs ++ run.value ∷ replicate run.more run.value
spread_push xs run = spread_append xs (run ∷ []) ∙ ap (λ l. spread xs ++ run.value ∷ l) (append-nil (replicate run.more run.value))

-- one run more
pub spread_more : {X : Type 0} (runs : List (Run X)) (i : ℕ) (d : Run X) → i < length runs → spread (take (i + 1) runs) ≡ spread (take i runs) ++ one (get_or runs i d)
spread_more runs i d less = ap spread (take_more runs i d less) ∙ spread_push (take i runs) (get_or runs i d)

pub length_more : {X : Type 0} (runs : List (Run X)) (i : ℕ) (d : Run X) → i < length runs → length (spread (take (i + 1) runs)) ≡ length (spread (take i runs)) + (get_or runs i d).more + 1
length_more runs i d less =
    let sum = ap length (spread_more runs i d less) ∙ length-append (spread (take i runs)) (one (get_or runs i d)) in
    let few = length-replicate (get_or runs i d).more (get_or runs i d).value in
    omega (arith, sum, few)

-- no run has more values than all have
pub fits : {X : Type 0} (runs : List (Run X)) (i : ℕ) (d : Run X) → i < length runs → length (spread (take i runs)) + (get_or runs i d).more + 1 ≤ length (spread runs)
fits runs i d less =
    let longer = length_more runs i d less in
    let whole = ap (λ l. length (spread l)) (sym (take-append-drop (i + 1) runs)) ∙ ap length (spread_append (take (i + 1) runs) (drop (i + 1) runs)) ∙ length-append (spread (take (i + 1) runs)) (spread (drop (i + 1) runs)) in
    omega (arith, longer, whole)

-- the runs before one, that run, and those behind it
pub spread_at : {X : Type 0} (runs : List (Run X)) (i : ℕ) (run : Run X) → slice_get runs i ≡ Some run → spread runs ≡ spread (take i runs) ++ (one run ++ spread (drop (suc i) runs))
spread_at [] i run e = cc
spread_at (r ∷ rs) zero run e = let same : r ≡ run = cc in ap (λ y. one y ++ spread rs) same
spread_at (r ∷ rs) (suc i) run e =
    ap (λ l. r.value ∷ (replicate r.more r.value ++ l)) (spread_at rs i run e)
    ∙ ap (λ l. r.value ∷ l) (sym (append_assoc (replicate r.more r.value) (spread (take i rs)) (one run ++ spread (drop (suc i) rs))))

-- copies of the runs up to one, and then a copy of that one
pub runs_more : {X : Type 0} (more : List (Run X)) (i : ℕ) (run : Run X) (start a b : List X) (v : X) → i < length more → run ≡ get_or more i run → v ≡ run.value → a ≡ start ++ spread (take i more) → b ≡ a ++ v ∷ replicate run.more v → b ≡ start ++ spread (take (i + 1) more)
runs_more more i run start a b v less is same f g =
    g ∙ ap (λ l. l ++ v ∷ replicate run.more v) f ∙ append_assoc start (spread (take i more)) (v ∷ replicate run.more v)
    ∙ ap (λ l. start ++ l) (ap (λ y. spread (take i more) ++ y ∷ replicate run.more y) same ∙ ap (λ y. spread (take i more) ++ one y) is ∙ sym (spread_more more i run less))

-- ---- the value at an index

get_front : {X : Type 0} (m k : ℕ) (v : X) (rest : List X) → k ≤ m → slice_get (v ∷ replicate m v ++ rest) k ≡ Some v
get_front m zero v rest less = refl
get_front zero (suc k) v rest less = absurd (omega (arith, less))
get_front (suc m) (suc k) v rest less = get_front m k v rest (omega (arith, less))

get_behind : {X : Type 0} (m n k : ℕ) (v : X) (rest : List X) → k ≡ m + n → slice_get (replicate m v ++ rest) k ≡ slice_get rest n
get_behind zero n k v rest e = ap (λ j. slice_get rest j) (let same : k ≡ n = omega (arith, e) in same)
get_behind (suc m) n zero v rest e = absurd (omega (arith, e))
get_behind (suc m) n (suc k) v rest e = get_behind m n k v rest (omega (arith, e))

pub get_in : {X : Type 0} (runs : List (Run X)) (at i before : ℕ) (run : Run X) → slice_get runs i ≡ Some run → before ≤ run.more → length (spread (take i runs)) + before ≡ at → slice_get (spread runs) at ≡ Some run.value
get_in [] at i before run e few sum = cc
get_in (r ∷ rs) at zero before run e few sum =
    let same : r ≡ run = cc in
    let here : before ≡ at = omega (arith, sum) in
    subst (λ k. slice_get (spread (r ∷ rs)) k ≡ Some run.value) here
    (subst (λ y. slice_get (spread (y ∷ rs)) before ≡ Some run.value) (sym same) (get_front run.more before run.value (spread rs) few))
get_in (r ∷ rs) zero (suc i) before run e few sum = absurd (omega (arith, sum))
get_in (r ∷ rs) (suc at) (suc i) before run e few sum =
    let front = length-append (replicate r.more r.value) (spread (take i rs)) in
    let long = length-replicate r.more r.value in
    get_behind r.more (length (spread (take i rs)) + before) at r.value (spread rs) (omega (arith, sum, front, long))
    ∙ get_in rs (length (spread (take i rs)) + before) i before run e few refl

-- ---- another value at an index

set_same : {X : Type 0} (m k : ℕ) (v x : X) → k ≤ m → set (v ∷ replicate m v) k x ≡ replicate k v ++ x ∷ replicate (m - k) v
set_same m zero v x less = ap (λ n. x ∷ replicate n v) (let same : m ≡ m - 0 = omega arith in same)
set_same zero (suc k) v x less = absurd (omega (arith, less))
set_same (suc m) (suc k) v x less =
    ap (λ l. v ∷ l) (set_same m k v x (omega (arith, less)))
    ∙ ap (λ n. v ∷ replicate k v ++ x ∷ replicate n v) (let same : m - k ≡ suc m - suc k = omega arith in same)

pub set_in : {X : Type 0} (runs : List (Run X)) (at i before : ℕ) (run : Run X) (x : X) → slice_get runs i ≡ Some run → before ≤ run.more → length (spread (take i runs)) + before ≡ at → set (spread runs) at x ≡ spread (take i runs) ++ ((replicate before run.value ++ x ∷ replicate (run.more - before) run.value) ++ spread (drop (suc i) runs))
set_in runs at i before run x e few sum =
    let front = spread (take i runs) in
    let back = spread (drop (suc i) runs) in
    let n = length-replicate run.more run.value in
    let here : at - length front ≡ before = omega (arith, sum) in
    ap (λ l. set l at x) (spread_at runs i run e)
    ∙ set-append_right front (one run ++ back) (length front) at x refl (omega (arith, sum))
    ∙ ap (λ k. front ++ set (one run ++ back) k x) here
    ∙ ap (λ l. front ++ l) (set-append_left (one run) back before x (omega (arith, few, n)))
    ∙ ap (λ l. front ++ (l ++ back)) (set_same run.more before run.value x few)

-- the runs after such a change
pub with_in : {X : Type 0} (runs : List (Run X)) (at i before : ℕ) (run : Run X) (x : X) (a b c : List X) → slice_get runs i ≡ Some run → before ≤ run.more → length (spread (take i runs)) + before ≡ at → a ≡ spread (take i runs) → b ≡ a ++ changed run before x → c ≡ b ++ spread (drop (i + 1) runs) → c ≡ set (spread runs) at x
with_in runs at i before run x a b c e few sum f g h =
    let next : i + 1 ≡ suc i = omega arith in
    let back = spread (drop (suc i) runs) in
    h ∙ ap (λ n. b ++ spread (drop n runs)) next
    ∙ ap (λ l. l ++ back) (g ∙ ap (λ l. l ++ changed run before x) f)
    ∙ append_assoc (spread (take i runs)) (changed run before x) back
    ∙ sym (set_in runs at i before run x e few sum)

-- ---- the last run made longer

pub join_last : {X : Type 0} (runs : List (Run X)) (v : X) (more : ℕ) (last : Run X) → 0 < length runs → last ≡ get_or runs (length runs - 1) last → last.value ≡ v → spread (set runs (length runs - 1) (record { value = v; more = last.more + more + 1 })) ≡ spread runs ++ v ∷ replicate more v
join_last {X} runs v more last some is same =
    let i = length runs - 1 in
    let less : i < length runs = omega (arith, some) in
    let longer : Run X = record { value = v; more = last.more + more + 1 } in
    let there : slice_get runs i ≡ Some last = slice_get-get_or runs i last less ∙ ap Some (sym is) in
    let none : drop (suc i) runs ≡ [] = drop_past (suc i) runs (omega (arith, some)) in
    let before : spread runs ≡ spread (take i runs) ++ one last = spread_at runs i last there ∙ ap (λ l. spread (take i runs) ++ (one last ++ spread l)) none ∙ ap (λ l. spread (take i runs) ++ l) (append-nil (one last)) in
    let after : spread (set runs i longer) ≡ spread (take i runs) ++ one longer =
    ap spread (set_split runs i longer less)
    ∙ ap (λ l. spread (take i runs ++ longer ∷ l)) none
    ∙ spread_push (take i runs) longer in
    after ∙ ap (λ l. spread (take i runs) ++ l) (grown last.more) ∙ sym (append_assoc (spread (take i runs)) (v ∷ replicate last.more v) (v ∷ replicate more v))
    ∙ ap (λ l. l ++ v ∷ replicate more v) (ap (λ y. spread (take i runs) ++ y ∷ replicate last.more y) (sym same) ∙ sym before)
  where
    grown : (k : ℕ) → v ∷ replicate (k + more + 1) v ≡ (v ∷ replicate k v) ++ v ∷ replicate more v
    grown k = ap (λ n. v ∷ replicate n v) (let e : k + more + 1 ≡ k + suc more = omega arith in e) ∙ ap (λ l. v ∷ l) (sym (replicate-append-replicate k (suc more) v))

-- ---- values that pass a test

pub count_more : {X : Type 0} (p : X → Bool) (runs : List (Run X)) (i : ℕ) (d : Run X) → i < length runs → count_by p (spread (take (i + 1) runs)) ≡ count_by p (spread (take i runs)) + cond (p (get_or runs i d).value) ((get_or runs i d).more + 1) 0
count_more p runs i d less = ap (count_by p) (spread_more runs i d less) ∙ sum_by-append (λ y. cond (p y) 1 0) (spread (take i runs)) (one (get_or runs i d)) ∙ ap (λ n. count_by p (spread (take i runs)) + n) (same (get_or runs i d))
  where
    same : (run : Run _) → count_by p (one run) ≡ cond (p run.value) (run.more + 1) 0
    same run = sum_by-replicate (λ y. cond (p y) 1 0) (suc run.more) run.value ∙ by (p run.value)
      where
        by : (b : Bool) → suc run.more * cond b 1 0 ≡ cond b (run.more + 1) 0
        by true = omega arith
        by false = omega arith

-- a count goes on by what counts of one run
pub count_on : {X : Type 0} (p : X → Bool) (runs : List (Run X)) (i : ℕ) (run : Run X) {count here : ℕ} {passes : Bool} → i < length runs → run ≡ get_or runs i run → count ≡ count_by p (spread (take i runs))
    → here ≡ cond passes (run.more + 1) 0 → passes ≡ p run.value → count + here ≡ count_by p (spread (take (i + 1) runs))
count_on {X} p runs i run {count} {here} {passes} less is so_far counts agrees =
    ap (λ n. n + here) so_far
    ∙ ap (λ n. count_by p (spread (take i runs)) + n) (counts ∙ ap (λ b. cond b (run.more + 1) 0) agrees ∙ ap (λ (r : Run X). cond (p r.value) (r.more + 1) 0) is)
    ∙ sym (count_more p runs i run less)

-- ---- tests and changes of each value

all_equal : {X : Type 0} (p : X → Bool) (m : ℕ) (v : X) (xs : List X) → p v ≡ true → list_all p (replicate m v ++ xs) ≡ list_all p xs
all_equal p zero v xs e = refl
all_equal p (suc m) v xs e = ap (λ b. b && list_all p (replicate m v ++ xs)) e ∙ all_equal p m v xs e

pub list_all_runs : {X : Type 0} (p : X → Bool) (runs : List (Run X)) → list_all (λ (run : Run X). p run.value) runs ≡ list_all p (spread runs)
list_all_runs p [] = refl
list_all_runs p (r ∷ rs) = by (p r.value) refl (list_all_runs p rs)
  where
    by : (b : Bool) → p r.value ≡ b → list_all (λ (run : Run _). p run.value) rs ≡ list_all p (spread rs) → (p r.value && list_all (λ run. p run.value) rs) ≡ (p r.value && list_all p (replicate r.more r.value ++ spread rs))
    by true e rest = ap (λ b. p r.value && b) (rest ∙ sym (all_equal p r.more r.value (spread rs) e))
    by false e rest = ap (λ b. b && list_all (λ run. p run.value) rs) e ∙ sym (ap (λ b. b && list_all p (replicate r.more r.value ++ spread rs)) e)

none_equal : {X : Type 0} (p : X → Bool) (m : ℕ) (v : X) (xs : List X) → p v ≡ false → list_any p (replicate m v ++ xs) ≡ list_any p xs
none_equal p zero v xs e = refl
none_equal p (suc m) v xs e = ap (λ b. b || list_any p (replicate m v ++ xs)) e ∙ none_equal p m v xs e

pub list_any_runs : {X : Type 0} (p : X → Bool) (runs : List (Run X)) → list_any (λ (run : Run X). p run.value) runs ≡ list_any p (spread runs)
list_any_runs p [] = refl
list_any_runs p (r ∷ rs) = by (p r.value) refl (list_any_runs p rs)
  where
    by : (b : Bool) → p r.value ≡ b → list_any (λ (run : Run _). p run.value) rs ≡ list_any p (spread rs) → (p r.value || list_any (λ run. p run.value) rs) ≡ (p r.value || list_any p (replicate r.more r.value ++ spread rs))
    by false e rest = ap (λ b. p r.value || b) (rest ∙ sym (none_equal p r.more r.value (spread rs) e))
    by true e rest = ap (λ b. b || list_any (λ run. p run.value) rs) e ∙ sym (ap (λ b. b || list_any p (replicate r.more r.value ++ spread rs)) e)

map_equal : {X Y : Type 0} (f : X → Y) (m : ℕ) (v : X) → map f (replicate m v) ≡ replicate m (f v)
map_equal f zero v = refl
map_equal f (suc m) v = ap (λ l. f v ∷ l) (map_equal f m v)

-- a changed value is appended as often as the value stands in its run
pub map_more : {X Y : Type 0} (f : X → Y) (runs : List (Run X)) (i : ℕ) (run : Run X) (y : Y) (a b : List Y) → i < length runs → run ≡ get_or runs i run → y ≡ f run.value → a ≡ map f (spread (take i runs)) → b ≡ a ++ y ∷ replicate run.more y → b ≡ map f (spread (take (i + 1) runs))
map_more f runs i run y a b less is same g h =
    h ∙ ap (λ l. l ++ y ∷ replicate run.more y) g
    ∙ ap (λ z. map f (spread (take i runs)) ++ z ∷ replicate run.more z) same
    ∙ ap (λ l. map f (spread (take i runs)) ++ f run.value ∷ l) (sym (map_equal f run.more run.value))
    ∙ sym (map-append f (spread (take i runs)) (one run))
    ∙ ap (λ r. map f (spread (take i runs) ++ one r)) is
    ∙ sym (ap (map f) (spread_more runs i run less))
