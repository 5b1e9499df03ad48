-- The open entries at a point of a path, and the sums over the first d of them.
use Rattle.std.proofs.Common.{◌≡◌, ℕ, suc, ◌+◌, ◌<◌, ◌≤◌, ◌⊎◌, min, inl, inr, List, [], ◌∷◌, length, drop, map, Bool, true, false, cond, ltb, ◌==◌, Option}
use Rattle.std.proofs.Common.{Some, None, refl, sym, ap, ◌∙◌, arith, add-zero}
use Rattle.std.specs.List.{sum_by}
use Rattle.std.proofs.lemmas.Bool.{cases_lt, lt-ltb, le-ltb, eqb-false}
use Rattle.std.proofs.lemmas.List.Sums.{sum_by-cons}
use Rattle.sts_code.specs.declared.instr.Instr.{Instr}
use Rattle.sts_code.specs.declared.instr.Instr.TheVariants.{Open, Fork, Close, Bind, Unbind}
use Rattle.sts_rules.specs.ControlPaths.{OpenEntry, OpenScope, OpenBinding}
use Rattle.sts_rules.specs.Budget.{Measure, entry_sum, entries_sum, forked, entries_of}
use Rattle.sts_budget.specs.Layout.{EntryNames, names_after, HasScope, FitsNames}
use Rattle.sts_budget.specs.Change.{source_of, added_of, position_of, measured}

abbrev pub name_of : OpenEntry → Option ℕ
name_of (OpenScope s subtasks) = Some s
name_of OpenBinding = None

-- the names of the open entries of a path
abbrev pub names : List OpenEntry → EntryNames
names es = map name_of es

pub long : (es : List OpenEntry) → length (names es) ≡ length es
long [] = refl
long (e ∷ es) = ap suc (long es)

-- the sum over the first d entries; the list has the innermost first, so an entry belongs to them
-- if fewer than d entries are outside it
abbrev pub front : Measure → List OpenEntry → ℕ → ℕ
front m [] d = 0
front m (e ∷ es) d = cond (ltb (length es) d) (entry_sum m e) 0 + front m es d

front_past : (m : Measure) (es : List OpenEntry) (d : ℕ) → length es ≤ d → front m es d ≡ entries_sum m es
front_past m [] d le = refl
front_past m (e ∷ es) d le =
    let a : ltb (length es) d ≡ true = lt-ltb (length es) d (omega arith) in
    ap (λ t. cond t (entry_sum m e) 0 + front m es d) a ∙ ap (λ y. entry_sum m e + y) (front_past m es d (omega arith)) ∙ sym (sum_by-cons (entry_sum m) e es)

-- the sum over the first entries is a part of the whole
pub front_le : (m : Measure) (es : List OpenEntry) (d : ℕ) → front m es d ≤ entries_sum m es
front_le m [] d = omega arith
front_le m (e ∷ es) d =
    let r = front_le m es d in
    let s : entries_sum m (e ∷ es) ≡ entry_sum m e + entries_sum m es = sum_by-cons (entry_sum m) e es in
    let one : cond (ltb (length es) d) (entry_sum m e) 0 ≤ entry_sum m e = elim (ltb (length es) d) as (λ b. cond b (entry_sum m e) 0 ≤ entry_sum m e) [ true ↦ omega arith | false ↦ omega arith ] in
    omega arith

-- all entries together
pub front_all : (m : Measure) (es : List OpenEntry) (n : ℕ) → length es ≡ n → front m es n ≡ entries_sum m es
front_all m es n e = front_past m es n (omega arith)

-- ---- a fork

names_forked : (x g : ℕ) (es : List OpenEntry) → names (forked x g es) ≡ names es
names_forked x g [] = refl
names_forked x g (OpenBinding ∷ es) = ap (λ ns. None ∷ ns) (names_forked x g es)
names_forked x g (OpenScope s subtasks ∷ es) = by (s == x) (names_forked x g es)
  where
    by : (b : Bool) → names (forked x g es) ≡ names es → names (cond b (OpenScope s (g ∷ subtasks) ∷ es) (OpenScope s subtasks ∷ forked x g es)) ≡ Some s ∷ names es
    by true ih = refl
    by false ih = ap (λ ns. Some s ∷ ns) ih

pub length_forked : (x g : ℕ) (es : List OpenEntry) → length (forked x g es) ≡ length es
length_forked x g es = sym (long (forked x g es)) ∙ ap length (names_forked x g es) ∙ long es

pub front_forked : (m : Measure) (x g : ℕ) (es : List OpenEntry) (d : ℕ) → HasScope x (names es) → front m (forked x g es) d ≡ front m es d + cond (ltb (position_of x (names es)) d) (m.subtask g) 0
front_forked m x g [] d h = absurd h
front_forked m x g (OpenBinding ∷ es) d (inl e) = absurd (cc)
front_forked m x g (OpenBinding ∷ es) d (inr h) =
    let n = length_forked x g es in
    let r = front_forked m x g es d h in
    ap (λ k. cond (ltb k d) m.binding 0 + front m (forked x g es) d) n ∙ omega (arith, r)
front_forked m x g (OpenScope s subtasks ∷ es) d h = by (s == x) refl (λ h'. front_forked m x g es d h')
  where
    own : ℕ
    own = m.scope + sum_by m.subtask subtasks

    more : m.scope + sum_by m.subtask (g ∷ subtasks) ≡ own + m.subtask g
    more = let e = sum_by-cons m.subtask g subtasks in omega arith

    split : (b : Bool) (k : ℕ) → cond b (m.scope + sum_by m.subtask (g ∷ subtasks)) 0 + k ≡ cond b own 0 + k + cond b (m.subtask g) 0
    split true k = omega (arith, more)
    split false k = omega arith

    outside : (b : Bool) → s == x ≡ b → b ≡ false → HasScope x (names es)
    outside b e f = elim h [ inl same ↦ (let k : s ≡ x = cc in absurd (eqb-false s x (e ∙ f) k)) | inr r ↦ r ]

    Goal : Bool → Type 0
    Goal b = front m (cond b (OpenScope s (g ∷ subtasks) ∷ es) (OpenScope s subtasks ∷ forked x g es)) d ≡ front m (OpenScope s subtasks ∷ es) d + cond (ltb (cond b (length (names es)) (position_of x (names es))) d) (m.subtask g) 0

    by : (b : Bool) → s == x ≡ b → (HasScope x (names es) → front m (forked x g es) d ≡ front m es d + cond (ltb (position_of x (names es)) d) (m.subtask g) 0) → Goal b
    by true e ih = split (ltb (length es) d) (front m es d) ∙ ap (λ k. cond (ltb (length es) d) own 0 + front m es d + cond (ltb k d) (m.subtask g) 0) (sym (long es))
    by false e ih =
        let r = ih (outside false e refl) in
        ap (λ k. cond (ltb k d) own 0 + front m (forked x g es) d) (length_forked x g es) ∙ omega (arith, r)

-- ---- one instruction

names_dropped : (es : List OpenEntry) → names (drop 1 es) ≡ drop 1 (names es)
names_dropped [] = refl
names_dropped (e ∷ es) = refl

pub names_of : (i : Instr) (es : List OpenEntry) → names (entries_of i es) ≡ names_after i (names es)
names_of (Fork x g h) es = names_forked x g es
names_of (Close x) es = names_dropped es
names_of Unbind es = names_dropped es
names_of _ es = refl

front_opened : (m : Measure) (e : OpenEntry) (es : List OpenEntry) (n d : ℕ) → n ≡ length es → front m (e ∷ es) d ≡ front m es (min d n) + cond (ltb n d) (entry_sum m e) 0
front_opened m e es n d same = by (cases_lt n d)
  where
    by : (n < d) ⊎ (d ≤ n) → cond (ltb (length es) d) (entry_sum m e) 0 + front m es d ≡ front m es (min d n) + cond (ltb n d) (entry_sum m e) 0
    by (inl lt) =
        let a : min d n ≡ n = omega arith in
        let b = front_past m es n (omega arith) in
        let b' = front_past m es d (omega arith) in
        let c : front m es (min d n) ≡ front m es d = ap (front m es) a ∙ b ∙ sym b' in
        let k : cond (ltb (length es) d) (entry_sum m e) 0 ≡ cond (ltb n d) (entry_sum m e) 0 = ap (λ q. cond (ltb q d) (entry_sum m e) 0) (sym same) in
        omega arith
    by (inr ge) =
        let a : min d n ≡ d = omega arith in
        let c : front m es (min d n) ≡ front m es d = ap (front m es) a in
        let k : cond (ltb (length es) d) (entry_sum m e) 0 ≡ cond (ltb n d) (entry_sum m e) 0 = ap (λ q. cond (ltb q d) (entry_sum m e) 0) (sym same) in
        omega arith

front_closed : (m : Measure) (es : List OpenEntry) (d : ℕ) → 0 < length (names es) → d ≤ length (drop 1 (names es)) → front m (drop 1 es) d ≡ front m es d + 0
front_closed m [] d pos le = absurd (omega arith)
front_closed m (e ∷ es) d pos le =
    let f : ltb (length es) d ≡ false = le-ltb (length es) d (omega (arith, long es)) in
    let z : cond (ltb (length es) d) (entry_sum m e) 0 ≡ 0 = ap (λ b. cond b (entry_sum m e) 0) f in
    omega arith

-- a scope that opens has no subtask
opened_alone : (m : Measure) (b : Bool) (k : ℕ) → k + cond b (entry_sum m (OpenScope 0 [])) 0 ≡ k + cond b m.scope 0
opened_alone m true k = omega arith
opened_alone m false k = refl

-- the sums after an instruction come from those before it
pub front_of : (m : Measure) (i : Instr) (es : List OpenEntry) (d : ℕ) → FitsNames i (names es) → d ≤ length (names_after i (names es)) → front m (entries_of i es) d ≡ front m es (source_of (measured m i (names es)) (length (names es)) d) + added_of (measured m i (names es)) (length (names es)) d
front_of m (Open x timed j) es d fits le = front_opened m (OpenScope x []) es (length (names es)) d (long es) ∙ opened_alone m (ltb (length (names es)) d) (front m es (min d (length (names es))))
front_of m (Fork x g h) es d fits le = front_forked m x g es d fits
front_of m (Close x) es d fits le = front_closed m es d fits le
front_of m (Bind k) es d fits le = front_opened m OpenBinding es (length (names es)) d (long es)
front_of m Unbind es d fits le = front_closed m es d fits le
front_of m _ es d fits le = sym (add-zero _)

low_dropped : (ns : EntryNames) (d : ℕ) → d ≤ length (drop 1 ns) → d ≤ length ns
low_dropped [] d le = le
low_dropped (n ∷ ns) d le = omega arith

-- it depends on no more entries than are open
pub source_low : (m : Measure) (i : Instr) (ns : EntryNames) (d : ℕ) → d ≤ length (names_after i ns) → source_of (measured m i ns) (length ns) d ≤ length ns
source_low m (Open x timed j) ns d le = omega arith
source_low m (Close x) ns d le = low_dropped ns d le
source_low m (Bind k) ns d le = omega arith
source_low m Unbind ns d le = low_dropped ns d le
source_low m _ ns d le = le

-- and on the same ones among the first x
pub source_kept : (m : Measure) (i : Instr) (ns : EntryNames) (d x : ℕ) → x ≤ length ns → min (source_of (measured m i ns) (length ns) d) x ≡ min d x
source_kept m (Open x timed j) ns d u le = omega arith
source_kept m (Bind k) ns d u le = omega arith
source_kept m _ ns d u le = refl
