-- Marking the places inside each loop.
use Rattle.std.proofs.Common.{◌≡◌, ◌≢◌, ℕ, suc, ◌+◌, ◌<◌, ◌≤◌, ◌⊎◌, inl, inr, List, ◌∷◌, length, map, Bool, true, false, Option, Some, None, ◌&&◌, cond, min}
use Rattle.std.proofs.Common.{ltb, leb, refl, sym, ap, ◌∙◌, arith, get_or, set, slice_get, replicate, get_or-set_same, get_or-set_other}
use Rattle.std.specs.List.{range_with_len}
use Rattle.std.proofs.lemmas.Bool.{cases_eq, cases_lt}
use Rattle.std.proofs.lemmas.Bool.Decides.{nat_tests}
use Rattle.std.proofs.lemmas.List.{length-replicate, get_or-replicate}
use Rattle.std.proofs.lemmas.List.FromFn.{get_or-map-range_with_len, length-map-range_with_len}
use Rattle.sts_code.specs.declared.instr.Instr.{Instr}
use Rattle.sts_code.specs.Loops.{match_of, is_times}
use Rattle.sts_rules.specs.Around.{is_inside, reaches_to}
use Rattle.sts_code.specs.Program.{instr_at}
use Rattle.sts_types.specs.Tables.{AreTablesOf, end_at}
use Rattle.sts_types.proofs.Nesting.{below, below_more}
use Rattle.sts_types.proofs.MatchingLemmas.{ends}

-- ---- one loop

-- the places after at and before upto are marked
abbrev pub Marks : (old now : List (Option ℕ)) (at upto : ℕ) → Type 0
Marks old now at upto = (q : ℕ) → get_or now q None ≡ cond (ltb at q && ltb q upto) (Some at) (get_or old q None)

pub marks_none : (old : List (Option ℕ)) (at : ℕ) → Marks old old at (at + 1)
marks_none old at q = let no : (ltb at q && ltb q (at + 1)) ≡ false = grind (arith, nat_tests) in rw no refl

pub marks_more : (old now : List (Option ℕ)) (at k : ℕ) → at < k → k < length now → Marks old now at k → Marks old (set now k (Some at)) at (k + 1)
marks_more old now at k after within marks q = by (cases_eq q k)
  where
    by : (q ≡ k) ⊎ (q ≢ k) → get_or (set now k (Some at)) q None ≡ cond (ltb at q && ltb q (k + 1)) (Some at) (get_or old q None)
    by (inl e) =
        let yes : (ltb at q && ltb q (k + 1)) ≡ true = grind (arith, nat_tests) in
        rw yes (ap (λ x. get_or (set now k (Some at)) x None) e ∙ get_or-set_same now k (Some at) None within)
    by (inr ne) =
        let same : (ltb at q && ltb q (k + 1)) ≡ (ltb at q && ltb q k) = grind (arith, nat_tests) in
        rw same (get_or-set_other now k q (Some at) None ne ∙ marks q)

pub marks_all : (old now : List (Option ℕ)) (at end : ℕ) → Marks old now at (end + 1) → (q : ℕ) → get_or now q None ≡ cond (ltb at q && leb q end) (Some at) (get_or old q None)
marks_all old now at end marks q =
    let same : (ltb at q && leb q end) ≡ (ltb at q && ltb q (end + 1)) = grind (arith, nat_tests) in
    rw same (marks q)

-- ---- all loops

-- the innermost loops among those that begin before k
pub record AreHeads (code : List Instr) (heads : List (Option ℕ)) (k : ℕ) : Type 0 where
  pub long : length heads ≡ length code
  pub heads_are : (q : ℕ) → q < length code → get_or heads q None ≡ slice_get (below code q (min k q)) 0

pub heads_begin : (code : List Instr) (heads : List (Option ℕ)) → heads ≡ replicate (length code) None → AreHeads code heads 0
heads_begin code heads e =
    record {
      long = ap length e ∙ length-replicate (length code) None;
      heads_are = λ q h. (let z : min 0 q ≡ 0 = omega arith in ap (λ xs. get_or xs q None) e ∙ get_or-replicate (length code) q None None h ∙ ap (λ k. slice_get (below code q k) 0) (sym z));
    }

inside_end : (code : List Instr) (q k : ℕ) → is_inside code q k ≡ reaches_to q (end_at code k)
inside_end code q k = by (is_times (instr_at code k)) refl
  where
    by : (b : Bool) → is_times (instr_at code k) ≡ b → (b && reaches_to q (match_of code k)) ≡ reaches_to q (cond b (match_of code k) None)
    by true e = refl
    by false e = refl

pub heads_more : (code : List Instr) (heads now : List (Option ℕ)) (k : ℕ) → AreHeads code heads k → length now ≡ length heads → ((q : ℕ) → get_or now q None ≡ cond (ltb k q && reaches_to q (end_at code k)) (Some k) (get_or heads q None)) → AreHeads code now (k + 1)
heads_more code heads now k at long marks = record { long = long ∙ at.long; heads_are = λ q h. by q h (cases_lt k q) }
  where
    by : (q : ℕ) → q < length code → (k < q) ⊎ (q ≤ k) → get_or now q None ≡ slice_get (below code q (min (k + 1) q)) 0
    by q h (inl lt) =
        let one : min (k + 1) q ≡ suc k = omega arith in
        let two : min k q ≡ k = omega arith in
        let yes : ltb k q ≡ true = grind (arith, nat_tests) in
        let old : get_or heads q None ≡ slice_get (below code q k) 0 = at.heads_are q h ∙ ap (λ x. slice_get (below code q x) 0) two in
        marks q ∙ ap (λ b. cond (b && reaches_to q (end_at code k)) (Some k) (get_or heads q None)) yes
        ∙ ap (λ x. cond (reaches_to q (end_at code k)) (Some k) x) old ∙ ap (λ b. cond b (Some k) (slice_get (below code q k) 0)) (sym (inside_end code q k))
        ∙ pick (is_inside code q k) ∙ ap (λ xs. slice_get xs 0) (sym (below_more code q k)) ∙ ap (λ x. slice_get (below code q x) 0) (sym one)
      where
        pick : (b : Bool) → cond b (Some k) (slice_get (below code q k) 0) ≡ slice_get (cond b (k ∷ below code q k) (below code q k)) 0
        pick true = refl
        pick false = refl
    by q h (inr le) =
        let one : min (k + 1) q ≡ min k q = omega arith in
        let not_after : ltb k q ≡ false = grind (arith, nat_tests) in
        marks q ∙ ap (λ b. cond (b && reaches_to q (end_at code k)) (Some k) (get_or heads q None)) not_after ∙ at.heads_are q h ∙ ap (λ x. slice_get (below code q x) 0) (sym one)

-- what is read of the table of ends
pub ends_read : (code : List Instr) (ends : List (Option ℕ)) (at : ℕ) (r : Option ℕ) → ends ≡ map (end_at code) (range_with_len 0 (length code)) → at < length code → r ≡ get_or ends at r → r ≡ end_at code at
ends_read code ends at r e h is = is ∙ ap (λ xs. get_or xs at r) e ∙ get_or-map-range_with_len (end_at code) 0 (length code) at at r h (omega arith)

pub ends_long : (code : List Instr) (ends : List (Option ℕ)) → ends ≡ map (end_at code) (range_with_len 0 (length code)) → length ends ≡ length code
ends_long code ends e = ap length e ∙ length-map-range_with_len (end_at code) 0 (length code)

pub end_within : (code : List Instr) (k m : ℕ) → end_at code k ≡ Some m → (k < m) × (m < length code)
end_within code k m e = by (is_times (instr_at code k)) e
  where
    by : (b : Bool) → cond b (match_of code k) None ≡ Some m → (k < m) × (m < length code)
    by true h = let t = ends code k m h in (t.after, t.within)
    by false h = cc

-- one place further, if a loop begins there and its inside was marked, and if none does
pub heads_marked : (code : List Instr) (heads now : List (Option ℕ)) (k end : ℕ) → AreHeads code heads k → length now ≡ length heads → end_at code k ≡ Some end → ((q : ℕ) → get_or now q None ≡ cond (ltb k q && leb q end) (Some k) (get_or heads q None)) → AreHeads code now (k + 1)
heads_marked code heads now k end at long is marks =
    heads_more code heads now k at long (λ q. marks q ∙ ap (λ o. cond (ltb k q && reaches_to q o) (Some k) (get_or heads q None)) (sym is))

pub heads_kept : (code : List Instr) (heads : List (Option ℕ)) (k : ℕ) → AreHeads code heads k → end_at code k ≡ None → AreHeads code heads (k + 1)
heads_kept code heads k at is =
    heads_more code heads heads k at refl (λ q. none (ltb k q) (get_or heads q None) ∙ ap (λ o. cond (ltb k q && reaches_to q o) (Some k) (get_or heads q None)) (sym is))
  where
    none : (b : Bool) (x : Option ℕ) → x ≡ cond (b && false) (Some k) x
    none true x = refl
    none false x = refl

-- the tables are made
pub tables_made : (code : List Instr) (ends heads : List (Option ℕ)) (k : ℕ) → ends ≡ map (end_at code) (range_with_len 0 (length code)) → length code ≤ k → AreHeads code heads k → AreTablesOf code (record { ends = ends; heads = heads })
tables_made code ends heads k e past at =
    record {
      ends_long = ap length e ∙ length-map-range_with_len (end_at code) 0 (length code);
      heads_long = at.long;
      ends = λ p h is. ap (λ xs. get_or xs p None) e ∙ get_or-map-range_with_len (end_at code) 0 (length code) p p None h (omega arith) ∙ ap (λ b. cond b (match_of code p) None) is;
      heads = λ q h. (let z : min k q ≡ q = omega arith in at.heads_are q h ∙ ap (λ x. slice_get (below code q x) 0) z);
    }
