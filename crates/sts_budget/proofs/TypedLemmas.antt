-- The code of a well-typed function is structured, and the place gives its open entries. Here the
-- typing enters the budgets.
use Rattle.std.proofs.Common.{◌≡◌, ℕ, zero, suc, ◌+◌, ◌<◌, ◌≤◌, inl, inr, List, [], ◌∷◌, ◌++◌, length, drop, map, reverse, Bool, true, false, cond, ◌&&◌}
use Rattle.std.proofs.Common.{Option, Some, None, Ok, refl, sym, ap, ◌∙◌, subst, arith, is_none, option_map, option_to_list, unwrap_or}
use Rattle.std.specs.List.{filter, range_with_len}
use Rattle.std.proofs.lemmas.Bool.{and_parts, cases_eq, cases_lt, leb-true, le-leb, not-false}
use Rattle.std.proofs.lemmas.List.{get_or_past, reverse-append}
use Rattle.sts_types.proofs.AmongLemmas.{among_left, among_right}
use Rattle.sts_types.proofs.PromisingLemmas.{heads_dropped}
use Rattle.sts_code.proofs.LoopLemmas.{at_match}
use Rattle.sts_code.specs.Program.{Program, routine, instr_at}
use Rattle.sts_code.specs.declared.instr.Instr.{Instr}
use Rattle.sts_code.specs.declared.instr.Instr.TheVariants.{Times, Next, Ret}
use Rattle.sts_rules.specs.declared.typing.TypedLoop.{TypedLoop}
use Rattle.sts_rules.specs.Flow.{Leads, Reaches, first, then, IsClear}
use Rattle.sts_code.specs.Loops.{match_of, is_times}
use Rattle.sts_rules.specs.TypeState.{TypeState, heads}
use Rattle.sts_rules.specs.Around.{next_place, skipped_to, around, is_inside, reaches_to}
use Rattle.sts_code.specs.Facts.{targets, falls_through}
use Rattle.sts_rules.specs.Causes.{closes_loop}
use Rattle.sts_rules.specs.Edges.{follows, moved, typing, edges_of}
use Rattle.sts_rules.specs.Refusal.{IsWellTyped}
use Rattle.sts_rules.specs.ControlPaths.{GoesTo, Repeats, EndsTurn, EndsPath, Skeleton, Among}
use Rattle.sts_rules.specs.declared.budget.Budgets.{Budgets}
use Rattle.sts_rules.specs.Budget.{skeleton, shape_of}
use Rattle.sts_budget.specs.Layout.{names_after}
pub use Rattle.sts_budget.proofs.Sorts.{slot_loops}
use Rattle.sts_budget.proofs.Sorts.{Sort, is_times as times_sort, is_next as next_sort, is_end as end_sort, goes_on, GoesOn, sort, among_of}
use Rattle.sts_budget.proofs.Allowed.{Allowed, allowed}
use Rattle.sts_budget.proofs.Match.{match_is_next, times_is}
use Rattle.sts_budget.specs.Structured.{IsStructured}
use Rattle.sts_budget.specs.TypedNames.{names}

-- ---- one step of the typing

-- the ways of an edge
pub data IsEdge (p : Program) (code : List Instr) (pc : ℕ) (i : Instr) (s : TypeState) : ℕ → TypeState → Type 0 where
  over_go : {to : ℕ} {x : TypeState} → GoesOn p code pc i → Among (targets i ++ next_place pc i) to → x.loops ≡ s.loops → names x.entries ≡ names_after i (names s.entries) → IsEdge p code pc i s to x
  into_loop : (n : ℕ) {x : TypeState} → i ≡ Times n → x.loops ≡ record { at = pc; entries = length s.entries } ∷ s.loops → x.entries ≡ s.entries → IsEdge p code pc i s (pc + 1) x
  past_loop : (n q : ℕ) {x : TypeState} → i ≡ Times n → match_of code pc ≡ Some q → x.loops ≡ s.loops → x.entries ≡ s.entries → IsEdge p code pc i s (q + 1) x
  over_next : {x : TypeState} → i ≡ Next → x.loops ≡ drop 1 s.loops → x.entries ≡ s.entries → IsEdge p code pc i s (pc + 1) x

skip_edge : (p : Program) (code : List Instr) (pc n : ℕ) (s : TypeState) (o : Option ℕ) → match_of code pc ≡ o → (to : ℕ) (x : TypeState) → Leads (map (λ q. (q, moved p (Times n) s)) (option_to_list (option_map (λ q. q + 1) o))) to x → IsEdge p code pc (Times n) s to x
skip_edge p code pc n s None e to x l = absurd l
skip_edge p code pc n s (Some q) e to x (inl h) = subst (λ k. IsEdge p code pc (Times n) s k x) h.0 (past_loop n q refl e (ap (λ (y : TypeState). y.loops) (sym h.1)) (ap (λ (y : TypeState). y.entries) (sym h.1)))
skip_edge p code pc n s (Some q) e to x (inr out_of) = absurd out_of

times_edge : (p : Program) (code : List Instr) (pc n : ℕ) (s : TypeState) (to : ℕ) (x : TypeState) → Leads (follows p code pc (Times n) s) to x → IsEdge p code pc (Times n) s to x
times_edge p code pc n s to x (inl h) = subst (λ k. IsEdge p code pc (Times n) s k x) h.0 (into_loop n refl (ap (λ (y : TypeState). y.loops) (sym h.1)) (ap (λ (y : TypeState). y.entries) (sym h.1)))
times_edge p code pc n s to x (inr l) = skip_edge p code pc n s (match_of code pc) refl to x l

next_edge : (p : Program) (code : List Instr) (pc : ℕ) (s : TypeState) (to : ℕ) (x : TypeState) → Leads (follows p code pc Next s) to x → IsEdge p code pc Next s to x
next_edge p code pc s to x (inl h) = subst (λ k. IsEdge p code pc Next s k x) h.0 (over_next refl (ap (λ (y : TypeState). y.loops) (sym h.1)) (ap (λ (y : TypeState). y.entries) (sym h.1)))
next_edge p code pc s to x (inr out_of) = absurd out_of

edge_of : (p : Program) (code : List Instr) (pc : ℕ) (i : Instr) → Sort p code pc i → (s : TypeState) (to : ℕ) (x : TypeState) → Leads (follows p code pc i s) to x → IsEdge p code pc i s to x
edge_of p code pc i (times_sort n) s to x l = times_edge p code pc n s to x l
edge_of p code pc i next_sort s to x l = next_edge p code pc s to x l
edge_of p code pc i (end_sort shape none nowhere) s to x l = absurd (subst (λ o. Leads o to x) (none s) l)
edge_of p code pc i (goes_on g) s to x l = let h = g.from s to x l in over_go g h.0 h.1 h.2

pub among_next : (pc : ℕ) (i : Instr) (to : ℕ) → Among (next_place pc i) to → to ≡ pc + 1
among_next pc i to a = by (falls_through i) a
  where
    by : (b : Bool) → Among (cond b ((pc + 1) ∷ []) []) to → to ≡ pc + 1
    by true (inl e) = sym e
    by true (inr out_of) = absurd out_of
    by false out_of = absurd out_of

-- ---- loops round a place

member_passes : (t : ℕ → Bool) (xs : List ℕ) (x : ℕ) → Among (filter t xs) x → (t x ≡ true) × Among xs x
member_passes t [] x a = absurd a
member_passes t (y ∷ ys) x a = by (t y) refl (λ b. member_passes t ys x b)
  where
    by : (b : Bool) → t y ≡ b → (Among (filter t ys) x → (t x ≡ true) × Among ys x) → (t x ≡ true) × Among (y ∷ ys) x
    by true e ih =
        let a' : Among (y ∷ filter t ys) x = subst (λ b. Among (cond b (y ∷ filter t ys) (filter t ys)) x) e a in
        elim a' [ inl same ↦ (ap t (sym same) ∙ e, inl same) | inr b ↦ (let h = ih b in (h.0, inr h.1)) ]
    by false e ih =
        let a' : Among (filter t ys) x = subst (λ b. Among (cond b (y ∷ filter t ys) (filter t ys)) x) e a in
        let h = ih a' in (h.0, inr h.1)

passes_member : (t : ℕ → Bool) (xs : List ℕ) (x : ℕ) → t x ≡ true → Among xs x → Among (filter t xs) x
passes_member t [] x e a = absurd a
passes_member t (y ∷ ys) x e (inl same) = subst (λ b. Among (cond b (y ∷ filter t ys) (filter t ys)) x) (sym (ap t same ∙ e)) (inl same)
passes_member t (y ∷ ys) x e (inr a) = by (t y) (passes_member t ys x e a)
  where
    by : (b : Bool) → Among (filter t ys) x → Among (cond b (y ∷ filter t ys) (filter t ys)) x
    by true h = inr h
    by false h = h

among_reverse : (xs : List ℕ) (x : ℕ) → Among xs x → Among (reverse xs) x
among_reverse [] x a = absurd a
among_reverse (y ∷ ys) x (inl e) = subst (λ l. Among l x) (sym (reverse-append (y ∷ []) ys)) (among_right (reverse ys) (y ∷ []) x (inl e))
among_reverse (y ∷ ys) x (inr a) = subst (λ l. Among l x) (sym (reverse-append (y ∷ []) ys)) (among_left (reverse ys) (y ∷ []) x (among_reverse ys x a))

in_range : (a n x : ℕ) → a ≤ x → x < a + n → Among (range_with_len a n) x
in_range a zero x le lt = absurd (omega arith)
in_range a (suc n) x le lt = elim (cases_eq a x) [ inl e ↦ inl e | inr ne ↦ inr (in_range (a + 1) n x (omega arith) (omega arith)) ]

is_within : (code : List Instr) (pc p q : ℕ) → is_times (instr_at code p) ≡ true → match_of code p ≡ Some q → pc ≤ q → is_inside code pc p ≡ true
is_within code pc p q t m le = ap (λ b. b && reaches_to pc (match_of code p)) t ∙ ap (reaches_to pc) m ∙ le-leb pc q le

-- a loop is round each place up to its end
round : (code : List Instr) (pc p q : ℕ) → p < pc → is_times (instr_at code p) ≡ true → match_of code p ≡ Some q → pc ≤ q → Among (around code pc) p
round code pc p q lt t m le = passes_member (is_inside code pc) (reverse (range_with_len 0 pc)) p (is_within code pc p q t m le) (among_reverse (range_with_len 0 pc) p (in_range 0 pc p (omega arith) (omega arith)))

reached : (pc : ℕ) (o : Option ℕ) → reaches_to pc o ≡ true → (q : ℕ) × ((o ≡ Some q) × (pc ≤ q))
reached pc None e = absurd (cc)
reached pc (Some q) e = (q, (refl, leb-true pc q e))

-- a loop around a place is a `times` with its match no earlier than the place
pub is_round : (code : List Instr) (pc p : ℕ) → Among (around code pc) p → (is_times (instr_at code p) ≡ true) × ((q : ℕ) × ((match_of code p ≡ Some q) × (pc ≤ q)))
is_round code pc p a =
    let m = member_passes (is_inside code pc) (reverse (range_with_len 0 pc)) p a in
    let b = and_parts (is_times (instr_at code p)) (reaches_to pc (match_of code p)) m.0 in
    (b.0, reached pc (match_of code p) b.1)

within_times : (code : List Instr) (p : ℕ) → is_times (instr_at code p) ≡ true → p < length code
within_times code p t = elim (cases_lt p (length code)) [ inl lt ↦ lt | inr ge ↦ (let z : false ≡ true = sym (ap is_times (get_or_past code p Ret ge)) ∙ t in absurd (cc)) ]

-- past the end there is no loop
pub none_past : (code : List Instr) (pc : ℕ) (hs : List ℕ) → around code pc ≡ hs → length code ≤ pc → hs ≡ []
none_past code pc [] e ge = refl
none_past code pc (p ∷ ps) e ge =
    let r = is_round code pc p (subst (λ hs. Among hs p) (sym e) (inl refl)) in
    let n = times_is (instr_at code p) r.0 in
    let m = match_is_next code p n.0 r.1.0 (within_times code p r.0) n.1 r.1.1.0 in
    absurd (omega (arith, m.2, r.1.1.1))

shape_times : (code : List Instr) (p : ℕ) → is_times (instr_at code p) ≡ true → (n : ℕ) × (shape_of p (instr_at code p) ≡ Repeats n)
shape_times code p t = let n = times_is (instr_at code p) t in (n.0, ap (shape_of p) n.1)

-- ---- what the shape says of the instruction

pub goes_of : (p : Program) (code : List Instr) (pc : ℕ) (i : Instr) (places : List ℕ) → Sort p code pc i → shape_of pc i ≡ GoesTo places → GoesOn p code pc i × (places ≡ targets i ++ next_place pc i)
goes_of p code pc i places (times_sort n) e = absurd (cc)
goes_of p code pc i places next_sort e = absurd (cc)
goes_of p code pc i places (end_sort shape none nowhere) e = let z : EndsPath ≡ GoesTo places = sym shape ∙ e in absurd (cc)
goes_of p code pc i places (goes_on g) e = let z : GoesTo places ≡ GoesTo (targets i ++ next_place pc i) = sym e ∙ g.shape in (g, (cc))

pub times_of : (p : Program) (code : List Instr) (pc : ℕ) (i : Instr) (n : ℕ) → Sort p code pc i → shape_of pc i ≡ Repeats n → i ≡ Times n
times_of p code pc i n (times_sort m) e = let z : m ≡ n = cc in ap (λ (k : ℕ). Times k) z
times_of p code pc i n next_sort e = absurd (cc)
times_of p code pc i n (end_sort shape none nowhere) e = let z : EndsPath ≡ Repeats n = sym shape ∙ e in absurd (cc)
times_of p code pc i n (goes_on g) e = let z : GoesTo (targets i ++ next_place pc i) ≡ Repeats n = sym g.shape ∙ e in absurd (cc)

pub next_of : (p : Program) (code : List Instr) (pc : ℕ) (i : Instr) → Sort p code pc i → shape_of pc i ≡ EndsTurn → i ≡ Next
next_of p code pc i (times_sort m) e = absurd (cc)
next_of p code pc i next_sort e = refl
next_of p code pc i (end_sort shape none nowhere) e = let z : EndsPath ≡ EndsTurn = sym shape ∙ e in absurd (cc)
next_of p code pc i (goes_on g) e = let z : GoesTo (targets i ++ next_place pc i) ≡ EndsTurn = sym g.shape ∙ e in absurd (cc)

some_match : (o : Option ℕ) → is_none o ≡ false → (q : ℕ) × (o ≡ Some q)
some_match None e = absurd (cc)
some_match (Some q) e = (q, refl)

-- the innermost loop ends here
closing : (code : List Instr) (pc : ℕ) (ls : List TypedLoop) → closes_loop code pc ls ≡ true → (l : TypedLoop) × ((rest : List TypedLoop) × ((ls ≡ l ∷ rest) × (match_of code l.at ≡ Some pc)))
closing code pc [] e = absurd (cc)
closing code pc (l ∷ rest) e = (l, (rest, (refl, at_match (match_of code l.at) pc e)))

-- ---- the function

-- the code of an accepted function
module _ (p : Program) (f : ℕ) (accepted : IsWellTyped p f) (some_code : 0 < length (routine p f).code) (bounds : (pc n : ℕ) → instr_at (routine p f).code pc ≡ Times n → 0 < n) (earlier : List Budgets) where
  abbrev code : List Instr
  code = (routine p f).code

  abbrev c : Skeleton
  c = skeleton earlier (routine p f).code

  pub edge_at : (pc : ℕ) (s : TypeState) (out : List (ℕ × TypeState)) (to : ℕ) (x : TypeState) → edges_of p f pc (instr_at (routine p f).code pc) s ≡ Ok out → Leads out to x → IsEdge p (routine p f).code pc (instr_at (routine p f).code pc) s to x
  edge_at pc s out to x e l =
      let a = allowed p f pc (instr_at (routine p f).code pc) s out e in
      edge_of p (routine p f).code pc (instr_at (routine p f).code pc) (sort p (routine p f).code pc (instr_at (routine p f).code pc)) s to x (subst (λ o. Leads o to x) a.is l)

  -- the open loops are stacked: when each was opened at a `times`, those below it were open
  abbrev Stacked : List ℕ → ℕ → Type 0
  Stacked [] pc = Unit {0}
  Stacked (h ∷ hs) pc = (is_times (instr_at (routine p f).code h) ≡ true) × (around (routine p f).code h ≡ hs) × (h < pc) × Stacked hs h

  stacked_more : (hs : List ℕ) (a b : ℕ) → a ≤ b → Stacked hs a → Stacked hs b
  stacked_more [] a b le h = tt
  stacked_more (q ∷ qs) a b le h = (h.0, h.1, omega (arith, h.2), h.3)

  stacked_dropped : (hs : List ℕ) (a b : ℕ) → a ≤ b → Stacked hs a → Stacked (drop 1 hs) b
  stacked_dropped [] a b le h = tt
  stacked_dropped (q ∷ qs) a b le h = stacked_more qs q b (omega (arith, h.2)) h.3

  pub record Fits (pc : ℕ) (s : TypeState) : Type 0 where
    pub loops : heads s.loops ≡ around (routine p f).code pc
    pub stack : Stacked (around (routine p f).code pc) pc

  -- the place that an edge leads to
  pub record Leading (pc : ℕ) (s : TypeState) (to : ℕ) (x : TypeState) : Type 0 where
    pub later : pc < to
    pub within : to < length (routine p f).code
    pub loops : around (routine p f).code to ≡ heads x.loops

  pub leading_go : (pc : ℕ) (i : Instr) (s : TypeState) (out : List (ℕ × TypeState)) (to : ℕ) (x : TypeState) → Allowed p f pc i s out → GoesOn p (routine p f).code pc i → Among (targets i ++ next_place pc i) to → x.loops ≡ s.loops → Leading pc s to x
  leading_go pc i s out to x a g among same = record {
    later = elim (among_of (targets i) (next_place pc i) to among) [ inl m ↦ a.later to m | inr m ↦ (let e = among_next pc i to m in omega arith) ];
    within = a.inside to (among_left (targets i ++ next_place pc i) (skipped_to (routine p f).code pc i) to among);
    loops = elim (among_of (targets i) (next_place pc i) to among) [
      | inl m ↦ a.around_named to (among_left (targets i) (skipped_to (routine p f).code pc i) to m) ∙ ap heads (sym same)
      | inr m ↦ a.around_next to m ∙ g.keeps_loops (heads s.loops) ∙ ap heads (sym same)
    ];
  }

  leading_enter : (pc n : ℕ) (s : TypeState) (out : List (ℕ × TypeState)) → Allowed p f pc (Times n) s out → (pc + 1 < length (routine p f).code) × (around (routine p f).code (pc + 1) ≡ pc ∷ heads s.loops)
  leading_enter pc n s out a = (a.inside (pc + 1) (inl refl), a.around_next (pc + 1) (inl refl))

  leading_skip : (pc n q : ℕ) (s : TypeState) (out : List (ℕ × TypeState)) → Allowed p f pc (Times n) s out → match_of (routine p f).code pc ≡ Some q → (q + 1 < length (routine p f).code) × (around (routine p f).code (q + 1) ≡ heads s.loops)
  leading_skip pc n q s out a m =
      let skips : Among (skipped_to (routine p f).code pc (Times n)) (q + 1) = subst (λ o. Among (option_to_list (option_map (λ k. k + 1) o)) (q + 1)) (sym m) (inl refl) in
      (a.inside (q + 1) (inr skips), a.around_named (q + 1) skips)

  leading_next : (pc : ℕ) (s : TypeState) (out : List (ℕ × TypeState)) → Allowed p f pc Next s out → (pc + 1 < length (routine p f).code) × (around (routine p f).code (pc + 1) ≡ drop 1 (heads s.loops))
  leading_next pc s out a = (a.inside (pc + 1) (inl refl), a.around_next (pc + 1) (inl refl))

  leading : (pc : ℕ) (i : Instr) (s : TypeState) (out : List (ℕ × TypeState)) → instr_at (routine p f).code pc ≡ i → pc < length (routine p f).code → Allowed p f pc i s out → (to : ℕ) (x : TypeState) → IsEdge p (routine p f).code pc i s to x → Leading pc s to x
  leading pc i s out here lt a to x (over_go g among same entries) = leading_go pc i s out to x a g among same
  leading pc i s out here lt a to x (into_loop n is loops entries) =
      let a' = subst (λ j. Allowed p f pc j s out) is a in
      let l = leading_enter pc n s out a' in
      record { later = omega arith; within = l.0; loops = l.1 ∙ ap heads (sym loops) }
  leading pc i s out here lt a to x (past_loop n q is m loops entries) =
      let a' = subst (λ j. Allowed p f pc j s out) is a in
      let l = leading_skip pc n q s out a' m in
      let after = match_is_next (routine p f).code pc n q lt (here ∙ is) m in
      record { later = omega (arith, after.1); within = l.0; loops = l.1 ∙ ap heads (sym loops) }
  leading pc i s out here lt a to x (over_next is loops entries) =
      let a' = subst (λ j. Allowed p f pc j s out) is a in
      let l = leading_next pc s out a' in
      record { later = omega arith; within = l.0; loops = l.1 ∙ sym (heads_dropped s.loops) ∙ ap heads (sym loops) }

  stack_step : (pc : ℕ) (i : Instr) (s : TypeState) (to : ℕ) (x : TypeState) → instr_at (routine p f).code pc ≡ i → Fits pc s → pc < to → IsEdge p (routine p f).code pc i s to x → Stacked (heads x.loops) to
  stack_step pc i s to x here h lt (over_go g among same entries) =
      subst (λ hs. Stacked hs to) (sym h.loops ∙ ap heads (sym same)) (stacked_more _ pc to (omega arith) h.stack)
  stack_step pc i s to x here h lt (into_loop n is loops entries) =
      subst (λ (ls : List TypedLoop). Stacked (heads ls) to) (sym loops) (ap is_times (here ∙ is), sym h.loops, lt, subst (λ hs. Stacked hs pc) (sym h.loops) h.stack)
  stack_step pc i s to x here h lt (past_loop n q is m loops entries) =
      subst (λ hs. Stacked hs to) (sym h.loops ∙ ap heads (sym loops)) (stacked_more _ pc to (omega arith) h.stack)
  stack_step pc i s to x here h lt (over_next is loops entries) =
      let below = stacked_dropped (around (routine p f).code pc) pc to (omega arith) h.stack in
      subst (λ hs. Stacked hs to) (ap (drop 1) (sym h.loops) ∙ sym (heads_dropped s.loops) ∙ ap heads (sym loops)) below

  fits_step : (pc : ℕ) (s : TypeState) (out : List (ℕ × TypeState)) (to : ℕ) (x : TypeState) → pc < length (routine p f).code → Fits pc s → edges_of p f pc (instr_at (routine p f).code pc) s ≡ Ok out → Leads out to x → Fits to x × (to < length (routine p f).code)
  fits_step pc s out to x lt h e l =
      let a = allowed p f pc (instr_at (routine p f).code pc) s out e in
      let d = edge_at pc s out to x e l in
      let u = leading pc (instr_at (routine p f).code pc) s out refl lt a to x d in
      let k = stack_step pc (instr_at (routine p f).code pc) s to x refl h u.later d in
      (record { loops = sym u.loops; stack = subst (λ hs. Stacked hs to) (sym u.loops) k }, u.within)

  pub fits : (pc : ℕ) (s : TypeState) → Reaches (typing p f) pc s → Fits pc s × (pc < length (routine p f).code)
  fits pc s first = (record { loops = refl; stack = tt }, some_code)
  fits pc s (then from before out r e l) = let h = fits from before r in fits_step from before out pc s h.1 h.0 e l

  -- ---- at a place

  pub record Here (pc : ℕ) : Type 0 where
    pub clear : IsClear (typing p f) pc
    pub fit : Fits pc clear.state
    pub rules : Allowed p f pc (instr_at (routine p f).code pc) clear.state clear.out

  pub here : (pc : ℕ) → pc < length (routine p f).code → Here pc
  here pc lt = let k = accepted pc lt in record { clear = k; fit = (fits pc k.state k.alone.0).0; rules = allowed p f pc (instr_at (routine p f).code pc) k.state k.out k.fine }

  -- a place with an instruction other than `ret` is in the code
  pub inside : (pc : ℕ) (i : Instr) → instr_at (routine p f).code pc ≡ i → (i ≡ Ret → ⊥) → pc < length (routine p f).code
  inside pc i e no_end = elim (cases_lt pc (length (routine p f).code)) [ inl lt ↦ lt | inr ge ↦ absurd (no_end (sym e ∙ get_or_past (routine p f).code pc Ret ge)) ]

  pub stack_at : (pc h : ℕ) (hs : List ℕ) → around (routine p f).code pc ≡ h ∷ hs → Stacked (h ∷ hs) pc
  stack_at pc h hs e = elim (cases_lt pc (length (routine p f).code)) [
    | inl lt ↦ (let k = here pc lt in subst (λ l. Stacked l pc) e k.fit.stack)
    | inr ge ↦ (let z = none_past (routine p f).code pc (h ∷ hs) e ge in absurd (cc))
  ]

  sort_at : (pc : ℕ) → Sort p (routine p f).code pc (instr_at (routine p f).code pc)
  sort_at pc = sort p (routine p f).code pc (instr_at (routine p f).code pc)

  pub times_at : (pc n : ℕ) → c.shape pc ≡ Repeats n → instr_at (routine p f).code pc ≡ Times n
  times_at pc n e = times_of p (routine p f).code pc (instr_at (routine p f).code pc) n (sort_at pc) e

  pub next_at : (pc : ℕ) → c.shape pc ≡ EndsTurn → instr_at (routine p f).code pc ≡ Next
  next_at pc e = next_of p (routine p f).code pc (instr_at (routine p f).code pc) (sort_at pc) e

  pub goes_at : (pc : ℕ) (places : List ℕ) → c.shape pc ≡ GoesTo places → GoesOn p (routine p f).code pc (instr_at (routine p f).code pc) × (places ≡ targets (instr_at (routine p f).code pc) ++ next_place pc (instr_at (routine p f).code pc))
  goes_at pc places e = goes_of p (routine p f).code pc (instr_at (routine p f).code pc) places (sort_at pc) e

  -- a place with an instruction that isn't the end of a path
  pub within_code : (pc : ℕ) → (c.shape pc ≡ EndsPath → ⊥) → pc < length (routine p f).code
  within_code pc no_end = inside pc (instr_at (routine p f).code pc) refl (λ e. no_end (ap (shape_of pc) e))

  -- the loop that a `next` ends
  pub record Ended (pc : ℕ) : Type 0 where
    pub head : ℕ
    pub turns : ℕ
    pub times : instr_at (routine p f).code head ≡ Times turns
    pub ends : match_of (routine p f).code head ≡ Some pc
    pub here_is : around (routine p f).code pc ≡ head ∷ around (routine p f).code head

  pub ended : (pc : ℕ) → instr_at (routine p f).code pc ≡ Next → Ended pc
  ended pc e =
      let k = here pc (inside pc Next e (λ z. (cc))) in
      let a = subst (λ j. Allowed p f pc j k.clear.state k.clear.out) e k.rules in
      let h = closing (routine p f).code pc k.clear.state.loops (not-false _ a.matched) in
      let l = h.0 in
      let around_is : around (routine p f).code pc ≡ l.at ∷ heads h.1.0 = sym k.fit.loops ∙ ap heads h.1.1.0 in
      let stack = stack_at pc l.at (heads h.1.0) around_is in
      let n = times_is (instr_at (routine p f).code l.at) stack.0 in
      record { head = l.at; turns = n.0; times = n.1; ends = h.1.1.1; here_is = around_is ∙ ap (λ hs. l.at ∷ hs) (sym stack.1) }

  -- two loops have two ends
  one_head : (pc h q : ℕ) → instr_at (routine p f).code pc ≡ Next → Ended pc → is_times (instr_at (routine p f).code q) ≡ true → match_of (routine p f).code q ≡ Some pc → q < pc → (e : Ended pc) → q ≡ e.head
  one_head pc h q is d t m lt e =
      let a = round (routine p f).code pc q pc lt t m (omega arith) in
      let a' = subst (λ hs. Among hs q) e.here_is a in
      let k = here pc (inside pc Next is (λ z. (cc))) in
      let rules = subst (λ j. Allowed p f pc j k.clear.state k.clear.out) is k.rules in
      let l = leading_next pc k.clear.state k.clear.out rules in
      let after : around (routine p f).code (pc + 1) ≡ around (routine p f).code e.head = l.1 ∙ ap (drop 1) k.fit.loops ∙ ap (drop 1) e.here_is in
      elim a' [
        | inl same ↦ sym same
        | inr outer ↦ (
            let r = is_round (routine p f).code (pc + 1) q (subst (λ hs. Among hs q) (sym after) outer) in
            let twice : Some pc ≡ Some r.1.0 = sym m ∙ r.1.1.0 in
            let same : pc ≡ r.1.0 = cc in
            absurd (omega (arith, r.1.1.1)))
      ]

  -- the loop that a `times` opens
  pub record Opened (pc n : ℕ) : Type 0 where
    pub end : ℕ
    pub ends : match_of (routine p f).code pc ≡ Some end
    pub mate : c.mate pc ≡ end
    pub is_end : instr_at (routine p f).code end ≡ Next
    pub later : pc < end
    pub within : end + 1 < length (routine p f).code
    pub around_turn : around (routine p f).code (pc + 1) ≡ pc ∷ around (routine p f).code pc
    pub around_end : around (routine p f).code end ≡ pc ∷ around (routine p f).code pc
    pub around_after : around (routine p f).code (end + 1) ≡ around (routine p f).code pc

  pub opened : (pc n : ℕ) → instr_at (routine p f).code pc ≡ Times n → Opened pc n
  opened pc n e =
      let lt = inside pc (Times n) e (λ z. (cc)) in
      let k = here pc lt in
      let a = subst (λ j. Allowed p f pc j k.clear.state k.clear.out) e k.rules in
      let m = some_match (match_of (routine p f).code pc) a.matched in
      let q = m.0 in
      let next = match_is_next (routine p f).code pc n q lt e m.1 in
      let enter = leading_enter pc n k.clear.state k.clear.out a in
      let skip = leading_skip pc n q k.clear.state k.clear.out a m.1 in
      let d = ended q next.0 in
      let same : pc ≡ d.head = one_head q pc pc next.0 d (ap is_times e) m.1 next.1 d in
      record {
        end = q;
        ends = m.1;
        mate = ap (λ o. unwrap_or o 0) m.1;
        is_end = next.0;
        later = next.1;
        within = skip.0;
        around_turn = enter.1 ∙ ap (λ hs. pc ∷ hs) k.fit.loops;
        around_end = d.here_is ∙ ap (λ h. h ∷ around (routine p f).code h) (sym same);
        around_after = skip.1 ∙ k.fit.loops;
      }

  pub structured : IsStructured c (around (routine p f).code)
  structured = record {
    outside = refl;
    some = λ pc places e. (let g = goes_at pc places e in (g.0.some.0, subst (λ ps. Among ps g.0.some.0) (sym g.1) g.0.some.1));
    forward = λ pc to places e among.
        (let g = goes_at pc places e in
        let k = here pc (within_code pc (λ z. (let w : EndsPath ≡ GoesTo places = sym z ∙ e in (cc)))) in
        let a' = subst (λ ps. Among ps to) g.1 among in
        let u = leading_go pc (instr_at (routine p f).code pc) k.clear.state k.clear.out to k.clear.state k.rules g.0 a' refl in
        (u.later, u.within, u.loops ∙ k.fit.loops));
    loop = λ pc n e.
        (let i = times_at pc n e in
        let o = opened pc n i in
        let at : (P : ℕ → Type 0) → P o.end → P (c.mate pc) = λ P x. subst P (sym o.mate) x in (
          bounds pc n i,
          at (λ q. pc < q) o.later,
          at (λ q. q + 1 < length (routine p f).code) o.within,
          at (λ q. c.shape q ≡ EndsTurn) (ap (shape_of o.end) o.is_end),
          o.around_turn,
          at (λ q. around (routine p f).code q ≡ pc ∷ around (routine p f).code pc) o.around_end,
          at (λ q. around (routine p f).code (q + 1) ≡ around (routine p f).code pc) o.around_after,
        ));
    nested = λ pc h hs e. (let s = stack_at pc h hs e in (shape_times (routine p f).code h s.0, s.1));
    lesser = λ pc h hs e. (stack_at pc h hs e).2;
    some_code = some_code;
    end = λ pc e.
        (let d = ended pc (next_at pc e) in
        (d.head, (d.turns, (ap (shape_of d.head) d.times, ap (λ o. unwrap_or o 0) d.ends))));
  }
