-- One forward pass over the places makes the table of greatest sums.
use Rattle.std.proofs.Common.{◌≡◌, ℕ, ◌+◌, ◌*◌, ◌<◌, ◌≤◌, ◌⊎◌, max, inl, inr, List, [], ◌∷◌, refl, sym, ap, ◌∙◌, subst, arith}
use Rattle.std.proofs.lemmas.Bool.{cases_eq, cases_lt}
use Rattle.sts_rules.specs.ControlPaths.{Shape, GoesTo, Repeats, EndsTurn, EndsPath, Skeleton, Among}
use Rattle.sts_budget.proofs.SumsLemmas.{IsTable, IsSourced, Source, by_go, by_turn, by_loop}
use Rattle.sts_budget.specs.Structured.{IsStructured, bound_of, Led, from_go, from_head, from_end}
use Rattle.sts_budget.specs.Sums.{Flows, FitsEntries, gain}
use Rattle.sts_budget.specs.Table.{MaxOf, read, Handed, New, IsSpread, IsPartial, over_go, over_loop}

max_more : (P : ℕ → Type 0) (x v : ℕ) → MaxOf P x → MaxOf (λ m. P m ⊎ (v ≡ m)) (max x v)
max_more P x v h = by (cases_lt v x)
  where
    by : (v < x) ⊎ (x ≤ v) → MaxOf (λ m. P m ⊎ (v ≡ m)) (max x v)
    by (inl lt) =
        let e : x ≡ max x v = omega arith in
        let here : P x = elim h.1 [ inl p ↦ p | inr z ↦ absurd (omega (arith, z.0)) ] in
        subst (MaxOf (λ m. P m ⊎ (v ≡ m))) e ((λ m. elim [ inl p ↦ h.0 m p | inr q ↦ omega arith ]), inl (inl here))
    by (inr ge) =
        let e : v ≡ max x v = omega arith in
        subst (MaxOf (λ m. P m ⊎ (v ≡ m))) e ((λ m. elim [ inl p ↦ (let le = h.0 m p in omega arith) | inr q ↦ omega arith ]), inl (inr refl))

max_same : (P Q : ℕ → Type 0) (x : ℕ) → ((m : ℕ) → P m → Q m) → ((m : ℕ) → Q m → P m) → MaxOf P x → MaxOf Q x
max_same P Q x to from h = (λ m q. h.0 m (from m q), elim h.1 [ inl p ↦ inl (to x p) | inr z ↦ inr (z.0, λ m q. z.1 m (from m q)) ])

pub among_cases : (places : List ℕ) (x : ℕ) → Among places x ⊎ (Among places x → ⊥)
among_cases [] x = inr (λ a. a)
among_cases (y ∷ ys) x = elim (cases_eq y x) [ inl e ↦ inl (inl e) | inr ne ↦ elim (among_cases ys x) [ inl a ↦ inl (inr a) | inr out ↦ inr (λ b. elim b [ inl e ↦ ne e | inr a ↦ out a ]) ] ]

module _ (c : Skeleton) (around : ℕ → List ℕ) (good : IsStructured c around) (f : Flows) (fits : FitsEntries c around f) (head : ℕ → ℕ) (heads_right : (pc : ℕ) → c.shape pc ≡ EndsTurn → ((n : ℕ) × (c.shape (head pc) ≡ Repeats n)) × (c.mate (head pc) ≡ pc)) where
  handed_later : (a : ℕ → ℕ → ℕ) (k pc d m : ℕ) → Handed c f a k pc d m → Handed c f a (k + 1) pc d m
  handed_later a k pc d m (over_go from to e places lt is among low) = over_go from to d places (omega arith) is among low
  handed_later a k pc d m (over_loop p n e lt is low) = over_loop p n d (omega arith) is low

  new_go : (a : ℕ → ℕ → ℕ) (k d : ℕ) (s : Shape) (places : List ℕ) (pc : ℕ) → c.shape k ≡ s → c.shape k ≡ GoesTo places → Among places pc → New c f head a k s pc d (a k (f.source k d) + f.added k d)
  new_go a k d (GoesTo there) places pc e e' among = let same : places ≡ there = (let o : GoesTo places ≡ GoesTo there = sym e' ∙ e in cc) in (subst (λ ps. Among ps pc) same among, refl)
  new_go a k d (Repeats n) places pc e e' among = let o : Repeats n ≡ GoesTo places = sym e ∙ e' in absurd (cc)
  new_go a k d EndsTurn places pc e e' among = let o : EndsTurn ≡ GoesTo places = sym e ∙ e' in absurd (cc)
  new_go a k d EndsPath places pc e e' among = let o : EndsPath ≡ GoesTo places = sym e ∙ e' in absurd (cc)

  -- the loop that ends at k is that of its head
  one_head : (k p n : ℕ) → c.shape p ≡ Repeats n → c.mate p ≡ k → (p ≡ head k) × (n ≡ bound_of (c.shape (head k))) × (c.shape k ≡ EndsTurn)
  one_head k p n e is =
      let l = good.loop p n e in
      let next : c.shape k ≡ EndsTurn = ap c.shape (sym is) ∙ l.3 in
      let h = heads_right k next in
      let l' = good.loop (head k) h.0.0 h.0.1 in
      let both : p ∷ around p ≡ head k ∷ around (head k) = sym l.5 ∙ ap around (is ∙ sym h.1) ∙ l'.5 in
      let same : p ≡ head k = cc in
      (same, ap bound_of (sym e ∙ ap c.shape same), next)

  new_loop : (a : ℕ → ℕ → ℕ) (k d : ℕ) (s : Shape) (p n : ℕ) → c.shape k ≡ s → c.shape p ≡ Repeats n → c.mate p ≡ k → New c f head a k s (c.mate p + 1) d (a p d + f.added p d + n * gain c f a p d)
  new_loop a k d s p n e e' is =
      let o = one_head k p n e' is in
      let value : a (head k) d + f.added (head k) d + bound_of (c.shape (head k)) * (a k d + f.added k d) ≡ a p d + f.added p d + n * gain c f a p d =
      ap (λ x. a x d + f.added x d + bound_of (c.shape (head k)) * (a k d + f.added k d)) (sym o.0) ∙ ap (λ x. a p d + f.added p d + x * (a k d + f.added k d)) (sym o.1) ∙ ap (λ x. a p d + f.added p d + n * (a x d + f.added x d)) (sym is) in
      let shape_is : EndsTurn ≡ s = sym o.2 ∙ e in
      let place : k + 1 ≡ c.mate p + 1 = ap (λ x. x + 1) (sym is) in
      subst (λ t. New c f head a k t (c.mate p + 1) d (a p d + f.added p d + n * gain c f a p d)) shape_is (place, value)

  apart : (a : ℕ → ℕ → ℕ) (k : ℕ) (s : Shape) → c.shape k ≡ s → (pc d m : ℕ) → Handed c f a (k + 1) pc d m → Handed c f a k pc d m ⊎ New c f head a k s pc d m
  apart a k s e pc d m (over_go from to x places lt e' among low) = by (cases_lt from k)
    where
      by : (from < k) ⊎ (k ≤ from) → Handed c f a k to d (a from (f.source from d) + f.added from d) ⊎ New c f head a k s to d (a from (f.source from d) + f.added from d)
      by (inl l) = inl (over_go from to d places l e' among low)
      by (inr g) = let is : k ≡ from = omega arith in inr (subst (λ x. New c f head a k s to d (a x (f.source x d) + f.added x d)) is (new_go a k d s places to e (ap c.shape is ∙ e') among))
  apart a k s e pc d m (over_loop p n x lt e' low) = by (cases_lt (c.mate p) k)
    where
      by : (c.mate p < k) ⊎ (k ≤ c.mate p) → Handed c f a k (c.mate p + 1) d (a p d + f.added p d + n * gain c f a p d) ⊎ New c f head a k s (c.mate p + 1) d (a p d + f.added p d + n * gain c f a p d)
      by (inl l) = inl (over_loop p n d l e' low)
      by (inr g) = let is : c.mate p ≡ k = omega arith in inr (new_loop a k d s p n e e' is)

  together : (a : ℕ → ℕ → ℕ) (k : ℕ) (s : Shape) → c.shape k ≡ s → (pc d m : ℕ) → d ≤ f.depth pc → Handed c f a k pc d m ⊎ New c f head a k s pc d m → Handed c f a (k + 1) pc d m
  together a k s e pc d m low (inl h) = handed_later a k pc d m h
  together a k (GoesTo places) e pc d m low (inr w) = subst (Handed c f a (k + 1) pc d) w.1 (over_go k pc d places (omega arith) e w.0 low)
  together a k (Repeats n) e pc d m low (inr w) = absurd w
  together a k EndsTurn e pc d m low (inr w) =
      let h = heads_right k e in
      let s = fits.same (head k) h.0.0 h.0.1 in
      let lt : c.mate (head k) < k + 1 = omega (arith, h.1) in
      let place : c.mate (head k) + 1 ≡ pc = ap (λ x. x + 1) h.1 ∙ w.0 in
      let low' : d ≤ f.depth (head k) = omega (arith, s.2, ap f.depth place) in
      let v : Handed c f a (k + 1) (c.mate (head k) + 1) d (a (head k) d + f.added (head k) d + h.0.0 * gain c f a (head k) d) = over_loop (head k) h.0.0 d lt h.0.1 low' in
      let turns : h.0.0 ≡ bound_of (c.shape (head k)) = ap bound_of (sym h.0.1) in
      let value : a (head k) d + f.added (head k) d + h.0.0 * gain c f a (head k) d ≡ m =
      ap (λ x. a (head k) d + f.added (head k) d + x * gain c f a (head k) d) turns ∙ ap (λ x. a (head k) d + f.added (head k) d + bound_of (c.shape (head k)) * (a x d + f.added x d)) h.1 ∙ w.1 in
      subst (λ q. Handed c f a (k + 1) q d m) place (subst (Handed c f a (k + 1) (c.mate (head k) + 1) d) value v)
  together a k EndsPath e pc d m low (inr w) = absurd w

  -- a place hands on only to later places
  new_later : (a : ℕ → ℕ → ℕ) (k : ℕ) (s : Shape) → c.shape k ≡ s → (pc d m : ℕ) → New c f head a k s pc d m → k < pc
  new_later a k (GoesTo places) e pc d m w = (good.forward k pc places e w.0).0
  new_later a k (Repeats n) e pc d m w = absurd w
  new_later a k EndsTurn e pc d m w = omega (arith, w.0)
  new_later a k EndsPath e pc d m w = absurd w

  -- the only value that it hands on to a place, if it hands on one
  new_cases : (a : ℕ → ℕ → ℕ) (k : ℕ) (s : Shape) (pc d : ℕ) → ((v : ℕ) × (New c f head a k s pc d v × ((m : ℕ) → New c f head a k s pc d m → v ≡ m))) ⊎ ((m : ℕ) → New c f head a k s pc d m → ⊥)
  new_cases a k (GoesTo places) pc d = elim (among_cases places pc) [ inl among ↦ inl (a k (f.source k d) + f.added k d, ((among, refl), λ m w. w.1)) | inr out ↦ inr (λ m w. out w.0) ]
  new_cases a k (Repeats n) pc d = inr (λ m w. w)
  new_cases a k EndsTurn pc d = elim (cases_eq (k + 1) pc) [ inl e ↦ inl (_, ((e, refl), λ m w. w.1)) | inr ne ↦ inr (λ m w. ne w.0) ]
  new_cases a k EndsPath pc d = inr (λ m w. w)

  -- one more place has handed on its values
  pub partial_more : (k : ℕ) (before after : List (List ℕ)) → IsPartial c f k before → IsSpread c f head k before after → IsPartial c f (k + 1) after
  partial_more k before after h sp = record { long = sp.long ∙ h.long; greatest = greatest }
    where
      a : ℕ → ℕ → ℕ
      a = read before

      b : ℕ → ℕ → ℕ
      b = read after

      earlier : (pc d : ℕ) → pc < k + 1 → pc < c.size → d ≤ f.depth pc → b pc d ≡ a pc d
      earlier pc d lt within low = sp.same pc d within low (λ m w. (let l = new_later a k (c.shape k) refl pc d m w in omega arith))

      -- values are handed on only from places of the code
      both : (x y : ℕ → ℕ → ℕ) → ((pc d : ℕ) → pc < k + 1 → pc < c.size → d ≤ f.depth pc → x pc d ≡ y pc d) → (pc d m : ℕ) → Handed c f x (k + 1) pc d m → Handed c f y (k + 1) pc d m
      both x y same pc d m (over_go from to e places lt is among low) =
          let g = good.forward from to places is among in
          let inside : from < c.size = omega (arith, g.0, g.1) in
          let v : y from (f.source from d) + f.added from d ≡ x from (f.source from d) + f.added from d = ap (λ z. z + f.added from d) (sym (same from (f.source from d) lt inside (fits.from from to d places is among low))) in
          subst (Handed c f y (k + 1) to d) v (over_go from to d places lt is among low)
      both x y same pc d m (over_loop p n e lt is low) =
          let l = good.loop p n is in
          let s = fits.same p n is in
          let p_lt : p < k + 1 = omega (arith, l.1) in
          let p_in : p < c.size = omega (arith, l.1, l.2) in
          let q_in : c.mate p < c.size = omega (arith, l.2) in
          let low_q : d ≤ f.depth (c.mate p) = omega (arith, s.1) in
          let g : gain c f y p d ≡ gain c f x p d = ap (λ z. z + f.added (c.mate p) d) (sym (same (c.mate p) d lt q_in low_q)) in
          let v : y p d + f.added p d + n * gain c f y p d ≡ x p d + f.added p d + n * gain c f x p d = ap (λ z. z + f.added p d + n * gain c f y p d) (sym (same p d p_lt p_in low)) ∙ ap (λ z. x p d + f.added p d + n * z) g in
          subst (Handed c f y (k + 1) (c.mate p + 1) d) v (over_loop p n d lt is low)

      P : ℕ → ℕ → ℕ → Type 0
      P pc d m = Handed c f a k pc d m ⊎ New c f head a k (c.shape k) pc d m

      with_new : (pc d : ℕ) → pc < c.size → d ≤ f.depth pc → MaxOf (P pc d) (b pc d)
      with_new pc d within low = elim (new_cases a k (c.shape k) pc d) [
        | inl v ↦ (let w = max_more (Handed c f a k pc d) (a pc d) v.0 (h.greatest pc d within low) in
            let w' = max_same (λ m. Handed c f a k pc d m ⊎ (v.0 ≡ m)) (P pc d) _ (λ m. elim [ inl p ↦ inl p | inr e ↦ inr (subst (λ z. New c f head a k (c.shape k) pc d z) e v.1.0) ]) (λ m. elim [ inl p ↦ inl p | inr n ↦ inr (v.1.1 m n) ]) w in
            subst (MaxOf (P pc d)) (sym (sp.raised pc d v.0 within low v.1.0)) w')
        | inr out ↦ subst (MaxOf (P pc d)) (sym (sp.same pc d within low out)) (max_same (Handed c f a k pc d) (P pc d) _ (λ m p. inl p) (λ m. elim [ inl p ↦ p | inr n ↦ absurd (out m n) ]) (h.greatest pc d within low))
      ]

      greatest : (pc d : ℕ) → pc < c.size → d ≤ f.depth pc → MaxOf (Handed c f b (k + 1) pc d) (b pc d)
      greatest pc d within low =
          max_same (P pc d) (Handed c f b (k + 1) pc d) _
          (λ m p. both a b (λ q e lt i lo. sym (earlier q e lt i lo)) pc d m (together a k (c.shape k) refl pc d m low p))
          (λ m p. apart a k (c.shape k) refl pc d m (both b a earlier pc d m p))
          (with_new pc d within low)

  -- nothing is handed on to the first place, nor to the first place of a loop's turn
  none_to_first : (a : ℕ → ℕ → ℕ) (k pc d m : ℕ) → pc ≡ 0 → Handed c f a k pc d m → ⊥
  none_to_first a k pc d m z (over_go from to e places lt is among low) = omega (arith, (good.forward from to places is among).0)
  none_to_first a k pc d m z (over_loop p n e lt is low) = omega arith

  none_to_turn : (a : ℕ → ℕ → ℕ) (k p n d : ℕ) → c.shape p ≡ Repeats n → (pc m : ℕ) → pc ≡ p + 1 → Handed c f a k pc d m → ⊥
  none_to_turn a k p n d e pc m is (over_go from to x places lt e' among low) =
      let l = good.loop p n e in
      let g = good.forward from to places e' among in
      let r : around from ≡ p ∷ around p = sym g.2 ∙ ap around is ∙ l.4 in
      let less = good.lesser from p (around p) r in
      omega (arith, g.0)
  none_to_turn a k p n d e pc m is (over_loop q n' x lt e' low) =
      let l = good.loop q n' e' in
      let same : c.mate q ≡ p = omega arith in
      let o : EndsTurn ≡ Repeats n = sym l.3 ∙ ap c.shape same ∙ e in
      cc

  -- each value up to k is that of some path
  pub sourced : (k bound : ℕ) (rows : List (List ℕ)) → bound ≤ c.size → bound ≤ k + 1 → IsPartial c f k rows → ((pc : ℕ) → 0 < pc → pc < c.size → Led c pc) → IsSourced c f (read rows) bound
  sourced k bound rows within near h led = record {
    first = elim (h.greatest 0 0 good.some_code (omega arith)).1 [ inl p ↦ absurd (none_to_first b k 0 0 _ refl p) | inr z ↦ z.0 ];
    source = λ pc d pos lt low. from_max pc d (omega arith) low (led pc pos (omega arith)) (b pc d) refl (h.greatest pc d (omega arith) low).1;
  }
    where
      b : ℕ → ℕ → ℕ
      b = read rows

      from_handed : (pc d m : ℕ) → m ≡ b pc d → Handed c f b k pc d m → Source c f b d pc
      from_handed pc d m is (over_go from to x places lt e among low) = by_go from to places e among is
      from_handed pc d m is (over_loop p n x lt e low) = by_loop p n e is

      from_led : (pc d : ℕ) → pc < k + 1 → d ≤ f.depth pc → Led c pc → b pc d ≡ 0 → ((m : ℕ) → Handed c f b k pc d m → ⊥) → Source c f b d pc
      from_led pc d lt low (from_go from to places e among) z out = absurd (out _ (over_go from to d places (let g = good.forward from to places e among in omega (arith, g.0)) e among low))
      from_led pc d lt low (from_head p n e) z out = by_turn p n e z
      from_led pc d lt low (from_end p n e) z out = let s = fits.same p n e in absurd (out _ (over_loop p n d (omega arith) e (omega (arith, s.2))))

      from_max : (pc d : ℕ) → pc < k + 1 → d ≤ f.depth pc → Led c pc → (x : ℕ) → x ≡ b pc d → Handed c f b k pc d x ⊎ ((x ≡ 0) × ((m : ℕ) → Handed c f b k pc d m → ⊥)) → Source c f b d pc
      from_max pc d lt low led x is (inl p) = from_handed pc d x is p
      from_max pc d lt low led x is (inr z) = from_led pc d lt low led (sym is ∙ z.0) z.1

  -- the whole pass makes the table
  pub is_table : (rows : List (List ℕ)) → IsPartial c f c.size rows → ((pc : ℕ) → 0 < pc → pc < c.size → Led c pc) → IsTable c f (read rows)
  is_table rows h led = record {
    turn = λ p n d e low. (let l = good.loop p n e in let s = fits.same p n e in let within : p + 1 < c.size = omega (arith, l.1, l.2) in let low' : d ≤ f.depth (p + 1) = omega (arith, s.0) in
        elim (h.greatest (p + 1) d within low').1 [ inl x ↦ absurd (none_to_turn b c.size p n d e (p + 1) _ refl x) | inr z ↦ z.0 ]);
    over_go = λ pc to d places e among low. (let g = good.forward pc to places e among in (h.greatest to d g.1 low).0 _ (over_go pc to d places (omega (arith, g.0, g.1)) e among low));
    over_loop = λ p n d e low. (let l = good.loop p n e in let s = fits.same p n e in (h.greatest (c.mate p + 1) d l.2 (omega (arith, s.2))).0 _ (over_loop p n d (omega (arith, l.2)) e low));
    sourced = sourced c.size c.size rows (omega arith) (omega arith) h led;
  }
    where
      b : ℕ → ℕ → ℕ
      b = read rows
