-- One forward pass that keeps at most one state a place finds the verdict.
use Rattle.std.proofs.Common.{◌≡◌, ◌≢◌, ℕ, ◌+◌, ◌<◌, ◌≤◌, ◌⊎◌, inl, inr, List, [], ◌∷◌, Some, None, Ok, Err, length, get_or, set, refl, sym, ap, ◌∙◌, subst}
use Rattle.std.proofs.Common.{arith, get_or-set_same, get_or-set_other, length-set}
use Rattle.std.proofs.lemmas.Bool.{cases_eq, cases_lt}
use Rattle.sts_types.specs.declared.arrival.Arrival.{Arrival}
use Rattle.sts_types.specs.declared.arrival.Arrival.TheVariants.{Nothing, One, Several}
use Rattle.sts_types.specs.Arrivals.{Merged, Arrive}
use Rattle.sts_types.specs.Passing.{Stands, Below, at_entry, out_of, Passed}
use Rattle.sts_rules.specs.Flow.{Flow, Leads, Reaches, first, then, IsAlone, TurnDiffers, TurnKeeps, IsClear, HasCause, dead, two, edge, turn}

module _ {S : Type 0} where
  merge_stands : (P : S → Type 0) (a b : Arrival S) (s : S) → Stands P a → Merged a s b → Stands (λ x. P x ⊎ (s ≡ x)) b
  merge_stands P Nothing b s h m = subst (Stands (λ x. P x ⊎ (s ≡ x))) (sym m) (inr refl, λ x. elim [ inl p ↦ absurd (h x p) | inr e ↦ sym e ])
  merge_stands P (One t) b s h (inl m) = subst (Stands (λ x. P x ⊎ (s ≡ x))) (sym m.1) (inl h.0, λ x. elim [ inl p ↦ h.1 x p | inr q ↦ sym q ∙ sym m.0 ])
  merge_stands P (One t) b s h (inr m) = subst (Stands (λ x. P x ⊎ (s ≡ x))) (sym m.1) (t, (s, (inl h.0, inr refl, m.0)))
  merge_stands P Several b s h m = subst (Stands (λ x. P x ⊎ (s ≡ x))) (sym m) (h.0, (h.1.0, (inl h.1.1.0, inl h.1.1.1, h.1.1.2)))

  stands_same : (P Q : S → Type 0) (a : Arrival S) → ((x : S) → P x → Q x) → ((x : S) → Q x → P x) → Stands P a → Stands Q a
  stands_same P Q Nothing to from h = λ s q. h s (from s q)
  stands_same P Q (One s) to from h = (to s h.0, λ x q. h.1 x (from x q))
  stands_same P Q Several to from h = (h.0, (h.1.0, (to _ h.1.1.0, to _ h.1.1.1, h.1.1.2)))

  -- the table represents the states P of each place below n
  abbrev pub Describes : (ℕ → S → Type 0) → List (Arrival S) → ℕ → Type 0
  Describes P table n = (length table ≡ n) × ((pc : ℕ) → pc < n → Stands (P pc) (get_or table pc Nothing))

  set_describes : (P : ℕ → S → Type 0) (table : List (Arrival S)) (n q : ℕ) (s : S) (b : Arrival S) → Merged (get_or table q Nothing) s b → Describes P table n → Describes (λ pc x. P pc x ⊎ ((q ≡ pc) × (s ≡ x))) (set table q b) n
  set_describes P table n q s b m h = (length-set table q _ ∙ h.0, λ pc within. at pc within (cases_eq q pc))
    where
      at : (pc : ℕ) → pc < n → (q ≡ pc) ⊎ (q ≢ pc) → Stands (λ x. P pc x ⊎ ((q ≡ pc) × (s ≡ x))) (get_or (set table q b) pc Nothing)
      at pc within (inl e) =
          let here : q < length table = omega (arith, h.0) in
          let in' : q < n = omega arith in
          let a = get_or-set_same table q b Nothing here in
          let w' = merge_stands (P q) (get_or table q Nothing) b s (h.1 q in') m in
          let w = stands_same (λ x. P q x ⊎ (s ≡ x)) (λ x. P q x ⊎ ((q ≡ q) × (s ≡ x))) _ (λ x. elim [ inl p ↦ inl p | inr r ↦ inr (refl, r) ]) (λ x. elim [ inl p ↦ inl p | inr r ↦ inr r.1 ]) w' in
          subst (λ p. Stands (λ x. P p x ⊎ ((q ≡ p) × (s ≡ x))) (get_or (set table q b) p Nothing)) e
          (subst (λ t. Stands (λ x. P q x ⊎ ((q ≡ q) × (s ≡ x))) t) (sym a) w)
      at pc within (inr ne) =
          let ne' : pc ≢ q = λ e. ne (sym e) in
          let a = get_or-set_other table q pc b Nothing ne' in
          let w = stands_same (P pc) (λ x. P pc x ⊎ ((q ≡ pc) × (s ≡ x))) _ (λ x p. inl p) (λ x. elim [ inl p ↦ p | inr r ↦ absurd (ne r.0) ]) (h.1 pc within) in
          subst (λ t. Stands (λ x. P pc x ⊎ ((q ≡ pc) × (s ≡ x))) t) (sym a) w

  describes_same : (P Q : ℕ → S → Type 0) (table : List (Arrival S)) (n : ℕ) → ((pc : ℕ) (x : S) → P pc x → Q pc x) → ((pc : ℕ) (x : S) → Q pc x → P pc x) → Describes P table n → Describes Q table n
  describes_same P Q table n to from h = (h.0, λ pc within. stands_same (P pc) (Q pc) _ (to pc) (from pc) (h.1 pc within))

  -- after an edge list has arrived, the table represents what it did before, and the list
  pub arrive_describes : (es : List (ℕ × S)) (P : ℕ → S → Type 0) (table after : List (Arrival S)) (n : ℕ) → Describes P table n → Arrive table es after → Describes (λ pc x. P pc x ⊎ Leads es pc x) after n
  arrive_describes [] P table after n h is = subst (λ t. Describes (λ pc x. P pc x ⊎ Leads [] pc x) t n) (sym is) (describes_same P _ table n (λ pc x p. inl p) (λ pc x. elim [ inl p ↦ p | inr r ↦ absurd r ]) h)
  arrive_describes (e ∷ es) P table after n h is =
      let Q : ℕ → S → Type 0 = λ pc x. P pc x ⊎ ((e.0 ≡ pc) × (e.1 ≡ x)) in
      let one = set_describes P table n e.0 e.1 is.0 is.1.0 h in
      describes_same (λ pc x. Q pc x ⊎ Leads es pc x) _ _ n
      (λ pc x. elim [ inl q ↦ elim q [ inl p ↦ inl p | inr r ↦ inr (inl r) ] | inr l ↦ inr (inr l) ])
      (λ pc x. elim [ inl p ↦ inl (inl p) | inr l ↦ elim l [ inl r ↦ inl (inr r) | inr m ↦ inr m ] ])
      (arrive_describes es Q _ after n one is.1.1)

-- the laws of a flow of n places: edges go forward and stay inside, a loop goes back to no later
-- place
pub record IsForward {S C : Type 0} (f : Flow S C) (n : ℕ) : Type 0 where
  pub up : (pc : ℕ) (s : S) (out : List (ℕ × S)) (to : ℕ) (x : S) → f.edges pc s ≡ Ok out → Leads out to x → (pc < to) × (to < n)
  pub down : (pc : ℕ) (s : S) (out : List (ℕ × S)) (q : ℕ) → f.edges pc s ≡ Ok out → f.back pc s ≡ Some q → q ≤ pc

module _ {S C : Type 0} (f : Flow S C) (n : ℕ) (laws : IsForward f n) where
  reaches : (k pc : ℕ) (s : S) → Below f k pc s → Reaches f pc s
  reaches k pc s at_entry = first
  reaches k pc s (out_of from before out lt r e l) = then from before out r e l

  -- all states that reach a place come from earlier places
  below : (k pc : ℕ) (s : S) → pc ≤ k → Reaches f pc s → Below f k pc s
  below k pc s le first = at_entry
  below k pc s le (then from before out r e l) =
      let up = laws.up from before out pc s e l in
      let lt : from < k = omega (arith, up.0) in
      out_of from before out lt r e l

  more : (k pc : ℕ) (s : S) → Below f k pc s → Below f (k + 1) pc s
  more k pc s at_entry = at_entry
  more k pc s (out_of from before out lt r e l) = let lt' : from < k + 1 = omega arith in out_of from before out lt' r e l

  -- the places below k + 1 add the edges of the only state at k
  split : (k : ℕ) (now : S) (next : List (ℕ × S)) → IsAlone f k now → f.edges k now ≡ Ok next → (pc : ℕ) (s : S) → Below f (k + 1) pc s → Below f k pc s ⊎ Leads next pc s
  split k now next alone fine pc s at_entry = inl at_entry
  split k now next alone fine pc s (out_of from before out lt r e l) = by (cases_lt from k)
    where
      by : (from < k) ⊎ (k ≤ from) → Below f k pc s ⊎ Leads next pc s
      by (inl b) = inl (out_of from before out b r e l)
      by (inr b) =
          let same_place : from ≡ k = omega arith in
          let r' : Reaches f k before = subst (λ p. Reaches f p before) same_place r in
          let same_state : before ≡ now = alone.1 before r' in
          let outs : Ok out ≡ Ok next = sym e ∙ ap (λ p. f.edges p before) same_place ∙ ap (λ x. f.edges k x) same_state ∙ fine in
          let o : out ≡ next = cc in
          inr (subst (λ es. Leads es pc s) o l)

  join : (k : ℕ) (now : S) (next : List (ℕ × S)) → IsAlone f k now → f.edges k now ≡ Ok next → (pc : ℕ) (s : S) → Below f k pc s ⊎ Leads next pc s → Below f (k + 1) pc s
  join k now next alone fine pc s (inl b) = more k pc s b
  join k now next alone fine pc s (inr l) = let lt : k < k + 1 = omega arith in out_of k now next lt alone.0 fine l

  -- the table is right about the places up to k, so it is right about all states that reach them
  pub known : (table : List (Arrival S)) (k pc : ℕ) → pc ≤ k → Stands (Below f k pc) (get_or table pc Nothing) → Stands (Reaches f pc) (get_or table pc Nothing)
  known table k pc le h = to (get_or table pc Nothing) h
    where
      to : (a : Arrival S) → Stands (Below f k pc) a → Stands (Reaches f pc) a
      to Nothing w = λ s r. w s (below k pc s le r)
      to (One s) w = (reaches k pc s w.0, λ x r. w.1 x (below k pc x le r))
      to Several w = (w.0, (w.1.0, (reaches k pc _ w.1.1.0, reaches k pc _ w.1.1.1, w.1.1.2)))

  -- the table has the only state of each place that was visited
  pub all_alone : (table : List (Arrival S)) (k : ℕ) → k ≤ n → Passed f n table k → (pc : ℕ) → pc < k → (s : S) × ((get_or table pc Nothing ≡ One s) × IsAlone f pc s)
  all_alone table k le at pc lt = by (get_or table pc Nothing) refl (known table k pc (omega arith) (at.holds.1 pc (omega arith)))
    where
      c : IsClear f pc
      c = at.clear pc lt

      by : (a : Arrival S) → get_or table pc Nothing ≡ a → Stands (Reaches f pc) a → (s : S) × ((get_or table pc Nothing ≡ One s) × IsAlone f pc s)
      by Nothing e w = absurd (w c.state c.alone.0)
      by (One s) e w = (s, (e, w))
      by Several e w = absurd (w.1.1.2 (c.alone.1 w.0 w.1.1.0 ∙ sym (c.alone.1 w.1.0 w.1.1.1)))

  module _ (table : List (Arrival S)) (k : ℕ) (within : k < n) (at : Passed f n table k) where
    -- what the table says of a place up to k
    stands : (pc : ℕ) (a : Arrival S) → pc ≤ k → get_or table pc Nothing ≡ a → Stands (Reaches f pc) a
    stands pc a le e =
        let inside : pc < n = omega arith in
        subst (Stands (Reaches f pc)) e (known table k pc le (at.holds.1 pc inside))

    pub is_dead : get_or table k Nothing ≡ Nothing → HasCause f k f.dead
    is_dead e = let le : k ≤ k = omega arith in dead (stands k Nothing le e)

    pub has_two : get_or table k Nothing ≡ Several → HasCause f k f.differ
    has_two e = let le : k ≤ k = omega arith in two (stands k Several le e)

    module _ (s : S) (here : get_or table k Nothing ≡ One s) where
      alone : IsAlone f k s
      alone = let le : k ≤ k = omega arith in stands k (One s) le here

      pub has_edge_cause : (c : C) → f.edges k s ≡ Err c → HasCause f k c
      has_edge_cause c e = edge s alone e

      -- the place that a loop goes back to has one state in the table
      turn_alone : (out : List (ℕ × S)) (q : ℕ) → f.edges k s ≡ Ok out → f.back k s ≡ Some q → (t : S) × IsAlone f q t
      turn_alone out q fine e = by (cases_lt q k)
        where
          by : (q < k) ⊎ (k ≤ q) → (t : S) × IsAlone f q t
          by (inl lt) = let c = at.clear q lt in (c.state, c.alone)
          by (inr ge) = let le = laws.down k s out q fine e in let same : q ≡ k = omega arith in (s, subst (λ p. IsAlone f p s) (sym same) alone)

      pub turn_same : (out : List (ℕ × S)) (q : ℕ) → f.edges k s ≡ Ok out → f.back k s ≡ Some q → get_or table q Nothing ≡ One s → TurnKeeps f k s
      turn_same out q fine e there q' other e' r =
          let le = laws.down k s out q fine e in
          let one = stands q (One s) le there in
          let same_q : q' ≡ q = (let o : Some q' ≡ Some q = sym e' ∙ e in cc) in
          one.1 other (subst (λ p. Reaches f p other) same_q r)

      pub no_turn : f.back k s ≡ None → TurnKeeps f k s
      no_turn e q other e' r = let o : None ≡ Some q = sym e ∙ e' in cc

      pub turn_differs : (out : List (ℕ × S)) (q : ℕ) → f.edges k s ≡ Ok out → f.back k s ≡ Some q → get_or table q Nothing ≢ One s → TurnDiffers f k s
      turn_differs out q fine e there =
          let le = laws.down k s out q fine e in
          let t = turn_alone out q fine e in
          by (get_or table q Nothing) refl
        where
          by : (a : Arrival S) → get_or table q Nothing ≡ a → TurnDiffers f k s
          by Nothing i = let t = turn_alone out q fine e in absurd (stands q Nothing (laws.down k s out q fine e) i t.0 t.1.0)
          by (One x) i = let w = stands q (One x) (laws.down k s out q fine e) i in (q, (x, (e, w.0, λ eq. there (i ∙ ap One eq))))
          by Several i =
              let t = turn_alone out q fine e in
              let w = stands q Several (laws.down k s out q fine e) i in
              absurd (w.1.1.2 (t.1.1 w.0 w.1.1.0 ∙ sym (t.1.1 w.1.0 w.1.1.1)))

      pub has_turn_cause : (out : List (ℕ × S)) → f.edges k s ≡ Ok out → TurnDiffers f k s → HasCause f k f.differ
      has_turn_cause out e d = turn s out alone e d

      pub is_clear : (out : List (ℕ × S)) → f.edges k s ≡ Ok out → TurnKeeps f k s → IsClear f k
      is_clear out e d = record { state = s; out = out; alone = alone; fine = e; same = d }

      pub goes_on : (out : List (ℕ × S)) (after : List (Arrival S)) → f.edges k s ≡ Ok out → TurnKeeps f k s → Arrive table out after → Passed f n after (k + 1)
      goes_on out after e d arrives =
          let h = arrive_describes out (Below f k) table after n at.holds arrives in
          record {
            holds = describes_same (λ pc x. Below f k pc x ⊎ Leads out pc x) (Below f (k + 1)) _ n (join k s out alone e) (split k s out alone e) h;
            clear = λ pc lt. by pc (cases_lt pc k) lt;
          }
        where
          by : (pc : ℕ) → (pc < k) ⊎ (k ≤ pc) → pc < k + 1 → IsClear f pc
          by pc (inl b) lt = at.clear pc b
          by pc (inr b) lt = let e' : k ≡ pc = omega arith in subst (IsClear f) e' (is_clear out e d)

  -- before the first place
  pub begin : (table : List (Arrival S)) → 0 < n → length table ≡ n → get_or table 0 Nothing ≡ One f.entry → ((pc : ℕ) → 0 < pc → pc < n → get_or table pc Nothing ≡ Nothing) → Passed f n table 0
  begin table some long one none = record { holds = (long, λ pc within. at pc within (cases_eq pc 0)); clear = λ pc lt. absurd (omega arith) }
    where
      only : (pc : ℕ) (x : S) → Below f 0 pc x → (pc ≡ 0) × (x ≡ f.entry)
      only pc x at_entry = (refl, refl)
      only pc x (out_of from before out lt r e l) = absurd (omega arith)

      at : (pc : ℕ) → pc < n → (pc ≡ 0) ⊎ (pc ≢ 0) → Stands (Below f 0 pc) (get_or table pc Nothing)
      at pc within (inl z) =
          let h : Stands (Below f 0 0) (One f.entry) = (at_entry, λ x b. (only 0 x b).1) in
          subst (λ p. Stands (Below f 0 p) (get_or table p Nothing)) (sym z) (subst (Stands (Below f 0 0)) (sym one) h)
      at pc within (inr nz) =
          let pos : 0 < pc = omega arith in
          let h : Stands (Below f 0 pc) Nothing = λ x b. nz (only pc x b).0 in
          subst (Stands (Below f 0 pc)) (sym (none pc pos within)) h
