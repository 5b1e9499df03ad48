-- The loops around a place: the innermost one, and those around it.
use Rattle.std.proofs.Common.{◌≡◌, ℕ, zero, suc, ◌+◌, ◌-◌, ◌<◌, ◌≤◌, ◌⊎◌, inl, inr, List, [], ◌∷◌, ◌++◌, length, Bool, true, false, Option, Some, None, ◌&&◌}
use Rattle.std.proofs.Common.{cond, refl, sym, ap, ◌∙◌, subst, arith, reverse, filter, slice_get, leb, leb-true, bytes_eq, eqb, eqb-true, eq-eqb, is_none}
use Rattle.std.proofs.Common.{is_some, not, drop, get_or}
use Rattle.std.specs.Option.{option_eq}
use Rattle.std.specs.List.{range_with_len}
use Rattle.std.proofs.lemmas.List.{reverse-append, get_or-map, length-map, drop_more, drop_all}
use Rattle.std.proofs.lemmas.Bool.{cases_lt, and_parts}
use Rattle.std.proofs.lemmas.Bool.Decides.{nat_tests}
use Rattle.sts_code.specs.declared.instr.Instr.{Instr}
use Rattle.sts_code.specs.Loops.{match_of, is_times}
use Rattle.sts_rules.specs.Around.{is_inside, reaches_to, around}
use Rattle.sts_code.specs.Program.{instr_at}
use Rattle.sts_rules.specs.declared.typing.TypedLoop.{TypedLoop}
use Rattle.sts_rules.specs.TypeState.{heads}
use Rattle.sts_types.specs.Tables.{head}
use Rattle.sts_types.proofs.MatchingLemmas.{ends, nested}

-- the loops around a place that begin before k
abbrev pub below : List Instr → ℕ → ℕ → List ℕ
below code pc k = filter (is_inside code pc) (reverse (range_with_len 0 k))

range_more : (a n : ℕ) → range_with_len a (suc n) ≡ range_with_len a n ++ (a + n) ∷ []
range_more a zero = let z : a ≡ a + 0 = omega arith in ap (λ x. x ∷ []) z
range_more a (suc n) = let z : a + 1 + n ≡ a + suc n = omega arith in ap (λ xs. a ∷ xs) (range_more (a + 1) n ∙ ap (λ x. range_with_len (a + 1) n ++ x ∷ []) z)

pub below_more : (code : List Instr) (pc k : ℕ) → below code pc (suc k) ≡ cond (is_inside code pc k) (k ∷ below code pc k) (below code pc k)
below_more code pc k =
    let z : 0 + k ≡ k = omega arith in
    ap (filter (is_inside code pc)) (ap reverse (range_more 0 k ∙ ap (λ x. range_with_len 0 k ++ x ∷ []) z) ∙ reverse-append (range_with_len 0 k) (k ∷ []))

-- if it is inside, its match isn't before
pub record IsWithin (code : List Instr) (pc p : ℕ) : Type 0 where
  pub times : is_times (instr_at code p) ≡ true
  pub end : ℕ
  pub match : match_of code p ≡ Some end
  pub reach : pc ≤ end

pub within : (code : List Instr) (pc p : ℕ) → is_inside code pc p ≡ true → IsWithin code pc p
within code pc p e =
    let h = and_parts (is_times (instr_at code p)) (reaches_to pc (match_of code p)) e in
    by h.0 (match_of code p) refl h.1
  where
    by : is_times (instr_at code p) ≡ true → (o : Option ℕ) → match_of code p ≡ o → reaches_to pc o ≡ true → IsWithin code pc p
    by t None m r = cc
    by t (Some q) m r = record { times = t; end = q; match = m; reach = leb-true pc q r }

-- the loop that begins at k comes first among those before k + 1
head_more : (code : List Instr) (pc k p : ℕ) (b : Bool) → is_inside code pc k ≡ b → slice_get (cond b (k ∷ below code pc k) (below code pc k)) 0 ≡ Some p → (slice_get (below code pc k) 0 ≡ Some p → (p < k) × (is_inside code pc p ≡ true) × (below code pc k ≡ p ∷ below code pc p)) → (p < suc k) × (is_inside code pc p ≡ true) × (cond b (k ∷ below code pc k) (below code pc k) ≡ p ∷ below code pc p)
head_more code pc k p true is e rest =
    let same : k ≡ p = cc in
    (omega arith, subst (λ x. is_inside code pc x ≡ true) same is, ap (λ x. x ∷ below code pc x) same)
head_more code pc k p false is e rest = let h = rest e in (omega (arith, h.0), h.1, h.2)

below_head : (code : List Instr) (pc k p : ℕ) → slice_get (below code pc k) 0 ≡ Some p → (p < k) × (is_inside code pc p ≡ true) × (below code pc k ≡ p ∷ below code pc p)
below_head code pc zero p e = cc
below_head code pc (suc k) p e =
    let h = head_more code pc k p (is_inside code pc k) refl (ap (λ xs. slice_get xs 0) (sym (below_more code pc k)) ∙ e) (λ r. below_head code pc k p r) in
    (h.0, h.1, below_more code pc k ∙ h.2)

-- a place before the innermost loop is around a place if and only if it is around that loop
inside_same : (code : List Instr) (q p r : ℕ) → p < q → IsWithin code q p → r < p → is_inside code q r ≡ is_inside code p r
inside_same code q p r lt w less = by (is_times (instr_at code r)) refl (match_of code r) refl
  where
    reach_same : (m : ℕ) → match_of code r ≡ Some m → is_times (instr_at code r) ≡ true → (m < p) ⊎ (p ≤ m) → leb q m ≡ leb p m
    reach_same m e t (inl before) = grind (arith, nat_tests)
    reach_same m e t (inr after) =
        let n = nested code r p m w.end (ends code r m e) t (ends code p w.end w.match) w.times less after in
        let far : q ≤ m = omega (arith, n, w.reach) in
        grind (arith, nat_tests)

    by : (b : Bool) → is_times (instr_at code r) ≡ b → (o : Option ℕ) → match_of code r ≡ o → b && reaches_to q o ≡ b && reaches_to p o
    by false t o e = refl
    by true t None e = refl
    by true t (Some m) e = reach_same m e t (cases_lt m p)

below_same : (code : List Instr) (q p k : ℕ) → p < q → IsWithin code q p → k ≤ p → below code q k ≡ below code p k
below_same code q p zero lt w le = refl
below_same code q p (suc k) lt w le =
    let same = inside_same code q p k lt w (omega arith) in
    let rest = below_same code q p k lt w (omega arith) in
    below_more code q k ∙ ap (λ b. cond b (k ∷ below code q k) (below code q k)) same ∙ ap (λ xs. cond (is_inside code p k) (k ∷ xs) xs) rest ∙ sym (below_more code p k)

-- the loops around a place are the innermost one and those around it
pub around_head : (code : List Instr) (q p : ℕ) → head code q ≡ Some p → (p < q) × (around code q ≡ p ∷ around code p)
around_head code q p e =
    let h = below_head code q q p e in
    (h.0, h.2 ∙ ap (λ xs. p ∷ xs) (below_same code q p p h.0 (within code q p h.1) (omega arith)))

-- ---- looking for the innermost one

pub is_head : (code : List Instr) (pc k : ℕ) → 0 < k → is_inside code pc (k - 1) ≡ true → slice_get (below code pc k) 0 ≡ head code pc → Some (k - 1) ≡ head code pc
is_head code pc zero h is e = absurd (omega arith)
is_head code pc (suc k) h is e =
    let z : suc k - 1 ≡ k = omega arith in
    let yes : is_inside code pc k ≡ true = subst (λ x. is_inside code pc x ≡ true) z is in
    ap Some z ∙ ap (λ b. slice_get (cond b (k ∷ below code pc k) (below code pc k)) 0) (sym yes) ∙ ap (λ xs. slice_get xs 0) (sym (below_more code pc k)) ∙ e

pub is_no_head : (code : List Instr) (pc k : ℕ) → 0 < k → is_inside code pc (k - 1) ≡ false → slice_get (below code pc k) 0 ≡ head code pc → slice_get (below code pc (k - 1)) 0 ≡ head code pc
is_no_head code pc zero h is e = absurd (omega arith)
is_no_head code pc (suc k) h is e =
    let z : suc k - 1 ≡ k = omega arith in
    let not_here : is_inside code pc k ≡ false = subst (λ x. is_inside code pc x ≡ false) z is in
    ap (λ x. slice_get (below code pc x) 0) z ∙ ap (λ b. slice_get (cond b (k ∷ below code pc k) (below code pc k)) 0) (sym not_here) ∙ ap (λ xs. slice_get xs 0) (sym (below_more code pc k)) ∙ e

-- ---- comparing with the open loops

pub same_at : (code : List Instr) (place at : ℕ) (rest : List ℕ) → head code place ≡ Some at → bytes_eq (around code place) (at ∷ rest) ≡ bytes_eq (around code at) rest
same_at code place at rest e =
    let h = (around_head code place at e).1 in
    let same : eqb at at ≡ true = eq-eqb at at refl in
    ap (λ xs. bytes_eq xs (at ∷ rest)) h ∙ ap (λ b. b && bytes_eq (around code at) rest) same

pub differs_at : (code : List Instr) (place at : ℕ) (rest : List ℕ) → (head code place ≡ Some at → ⊥) → bytes_eq (around code place) (at ∷ rest) ≡ false
differs_at code place at rest differs = by (around code place) refl
  where
    first_differs : (x : ℕ) (xs : List ℕ) (b : Bool) → eqb x at ≡ b → (x ≡ at → ⊥) → b && bytes_eq xs rest ≡ false
    first_differs x xs true e h = absurd (h (eqb-true x at e))
    first_differs x xs false e h = refl

    by : (xs : List ℕ) → around code place ≡ xs → bytes_eq xs (at ∷ rest) ≡ false
    by [] e = refl
    by (x ∷ xs) e = first_differs x xs (eqb x at) refl (λ same. differs (ap (λ l. slice_get l 0) e ∙ ap Some same))

pub at_end : (code : List Instr) (place : ℕ) → bytes_eq (around code place) [] ≡ is_none (head code place)
at_end code place = by (around code place)
  where
    by : (xs : List ℕ) → bytes_eq xs [] ≡ is_none (slice_get xs 0)
    by [] = refl
    by (x ∷ xs) = refl

-- the open loops from i on are this one and the rest
pub heads_more : (loops : List TypedLoop) (i : ℕ) (l d : TypedLoop) → i < length loops → l ≡ get_or loops i d → drop i (heads loops) ≡ l.at ∷ drop (i + 1) (heads loops)
heads_more loops i l d h e =
    let long : i < length (heads loops) = omega (arith, length-map loops (λ (x : TypedLoop). x.at)) in
    drop_more (heads loops) i d.at long ∙ ap (λ x. x ∷ drop (i + 1) (heads loops)) (get_or-map (λ (x : TypedLoop). x.at) loops i d d.at h ∙ ap (λ (x : TypedLoop). x.at) (sym e))

pub heads_end : (loops : List TypedLoop) (i : ℕ) → length loops ≤ i → drop i (heads loops) ≡ []
heads_end loops i h = drop_all i (heads loops) (omega (arith, length-map loops (λ (x : TypedLoop). x.at)))

pub is_not : (o : Option ℕ) (at : ℕ) (b : Bool) → b ≡ not (option_eq eqb o (Some at)) → b ≡ true → o ≡ Some at → ⊥
is_not o at b e t same = let yes : option_eq eqb o (Some at) ≡ true = ap (λ x. option_eq eqb x (Some at)) same ∙ eq-eqb at at refl in cc

pub is_it : (o : Option ℕ) (at : ℕ) (b : Bool) → b ≡ not (option_eq eqb o (Some at)) → b ≡ false → o ≡ Some at
is_it None at b e f = cc
is_it (Some x) at b e f = by (eqb x at) refl (sym e ∙ f)
  where
    by : (t : Bool) → eqb x at ≡ t → not t ≡ false → Some x ≡ Some at
    by true is n = ap Some (eqb-true x at is)
    by false is n = cc

pub none_is : (o : Option ℕ) (b : Bool) → is_some o ≡ not b → b ≡ is_none o
none_is None true e = refl
none_is None false e = cc
none_is (Some x) true e = cc
none_is (Some x) false e = refl
