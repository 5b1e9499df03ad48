-- One pass finds the greatest sum of all points. It keeps, for each d, the greatest sum over the
-- first d open entries. The steps of paths are such a sum over no entry.
use Rattle.std.proofs.Common.{◌≡◌, ◌≢◌, ℕ, zero, suc, ◌+◌, ◌-◌, ◌*◌, ◌<◌, ◌≤◌, ◌⊎◌, min, inl, inr, List, [], ◌∷◌, refl, sym, ap, ◌∙◌, subst, arith, suc-mul}
use Rattle.std.proofs.Common.{zero-mul, mul-le-mul_right}
use Rattle.std.proofs.lemmas.Bool.{cases_eq}
use Rattle.sts_rules.specs.ControlPaths.{GoesTo, Repeats, Skeleton, Among, Loops, Follows, go, skip, enter, again, leave}
use Rattle.sts_budget.proofs.StructuredLemmas.{FitTurns, own_loop, IsInside, inside_step, inside_start}
use Rattle.sts_budget.specs.Structured.{IsStructured, heads, bound_of}
use Rattle.sts_budget.specs.Sums.{Flows, Sums, FitsEntries, Stands, gain, last_turns, base, full, turn_base, none, more}

-- a place takes its value from one before it
pub data Source (c : Skeleton) (f : Flows) (best : ℕ → ℕ → ℕ) (d : ℕ) : ℕ → Type 0 where
  by_go : (from to : ℕ) (places : List ℕ) → c.shape from ≡ GoesTo places → Among places to → best from (f.source from d) + f.added from d ≡ best to d → Source c f best d to
  by_turn : (p n : ℕ) → c.shape p ≡ Repeats n → best (p + 1) d ≡ 0 → Source c f best d (p + 1)
  by_loop : (p n : ℕ) → c.shape p ≡ Repeats n → best p d + f.added p d + n * gain c f best p d ≡ best (c.mate p + 1) d → Source c f best d (c.mate p + 1)

-- each value at a place below the bound is that of some path
pub record IsSourced (c : Skeleton) (f : Flows) (best : ℕ → ℕ → ℕ) (bound : ℕ) : Type 0 where
  pub first : best 0 0 ≡ 0
  pub source : (pc d : ℕ) → 0 < pc → pc < bound → d ≤ f.depth pc → Source c f best d pc

-- the table of the pass: for each place and d the greatest sum, counted from the start of the
-- innermost loop's turn
pub record IsTable (c : Skeleton) (f : Flows) (best : ℕ → ℕ → ℕ) : Type 0 where
  pub turn : (p n d : ℕ) → c.shape p ≡ Repeats n → d ≤ f.depth p → best (p + 1) d ≡ 0
  pub over_go : (pc to d : ℕ) (places : List ℕ) → c.shape pc ≡ GoesTo places → Among places to → d ≤ f.depth to → best pc (f.source pc d) + f.added pc d ≤ best to d
  pub over_loop : (p n d : ℕ) → c.shape p ≡ Repeats n → d ≤ f.depth p → best p d + f.added p d + n * gain c f best p d ≤ best (c.mate p + 1) d
  pub sourced : IsSourced c f best c.size

min_low : (d n : ℕ) → d ≤ n → min d n ≡ d
min_low d n le = omega arith

heads_last : (ps : List ℕ) → heads (last_turns ps) ≡ ps
heads_last [] = refl
heads_last (p ∷ ps) = ap (λ (hs : List ℕ). p ∷ hs) (heads_last ps)

-- the entries of a place in a loop that were open when the loop began
low_in : (c : Skeleton) (around : ℕ → List ℕ) (f : Flows) → FitsEntries c around f → (p n d : ℕ) → c.shape p ≡ Repeats n → (min d (f.depth p) ≤ f.depth p) × (min d (f.depth p) ≤ f.depth (p + 1))
low_in c around f fits p n d e =
    let s = fits.same p n e in
    (omega arith, omega (arith, s.0))

module _ (c : Skeleton) (around : ℕ → List ℕ) (good : IsStructured c around) (f : Flows) (fits : FitsEntries c around f) (best : ℕ → ℕ → ℕ) (bound : ℕ) (sourced : IsSourced c f best bound) where
  -- a path is at the start of the innermost loop's turn, with this sum over the first d of the
  -- entries that were open when the loop began
  abbrev pub Begins : Loops → ℕ → ℕ → Type 0
  Begins [] d m = m ≡ 0
  Begins (l ∷ ls) d m = Sums c f (min d (f.depth l.0)) (l.0 + 1) (l ∷ ls) m

  abbrev Before : ℕ → Type 0
  Before pc = (q : ℕ) → q < pc → (d : ℕ) → d ≤ f.depth q → (ls : Loops) (m : ℕ) → heads ls ≡ around q → Begins ls d m → Sums c f d q ls (m + best q d)

  -- a step that is no jump depends on the same entries
  plain : (d pc : ℕ) (ls : Loops) (m to : ℕ) (after : Loops) → d ≤ f.depth to → f.source pc d ≡ d → Sums c f d pc ls m → Follows c pc ls to after → Sums c f d to after (m + f.added pc d)
  plain d pc ls m to after low same r s = more low (subst (λ x. Sums c f x pc ls m) (sym same) r) s

  turns_done : (p n d : ℕ) (e : c.shape p ≡ Repeats n) (low : d ≤ f.depth p) (ls : Loops) → ((left m : ℕ) → Sums c f d (p + 1) ((p, left) ∷ ls) m → Sums c f d (c.mate p) ((p, left) ∷ ls) (m + best (c.mate p) d))
      → (left m : ℕ) → Sums c f d (p + 1) ((p, suc left) ∷ ls) m → Sums c f d (c.mate p + 1) ls (m + suc left * gain c f best p d)
  turns_done p n d e low ls one zero m r =
      let l = good.loop p n e in
      let s = fits.same p n e in
      let low' : d ≤ f.depth (c.mate p + 1) = omega (arith, s.2) in
      let at = one 1 m r in
      let out = plain d (c.mate p) _ _ _ _ low' (fits.next (c.mate p) d l.3) at (leave p l.3) in
      let same : m + best (c.mate p) d + f.added (c.mate p) d ≡ m + 1 * gain c f best p d = omega (arith, suc-mul 0 (gain c f best p d)) in
      subst (λ x. Sums c f d (c.mate p + 1) ls x) same out
  turns_done p n d e low ls one (suc left) m r =
      let l = good.loop p n e in
      let s = fits.same p n e in
      let low' : d ≤ f.depth (p + 1) = omega (arith, s.0) in
      let at = one (suc (suc left)) m r in
      let out = plain d (c.mate p) _ _ _ _ low' (fits.next (c.mate p) d l.3) at (again p (suc left) l.3 (omega arith)) in
      let rest = turns_done p n d e low ls one left (m + best (c.mate p) d + f.added (c.mate p) d) out in
      let g = gain c f best p d in
      let same : m + best (c.mate p) d + f.added (c.mate p) d + suc left * g ≡ m + suc (suc left) * g = omega (arith, suc-mul (suc left) g) in
      subst (λ x. Sums c f d (c.mate p + 1) ls x) same rest

  at_turn : (p n d : ℕ) → c.shape p ≡ Repeats n → d ≤ f.depth (p + 1) → best (p + 1) d ≡ 0 → (ls : Loops) (m : ℕ) → heads ls ≡ around (p + 1) → Begins ls d m → Sums c f d (p + 1) ls (m + best (p + 1) d)
  at_turn p n d e low z [] m inside r = let l = good.loop p n e in let no : [] ≡ p ∷ around p = inside ∙ l.4 in cc
  at_turn p n d e low z (l ∷ ls) m inside r =
      let g = good.loop p n e in
      let s = fits.same p n e in
      let hs : l.0 ∷ heads ls ≡ p ∷ around p = inside ∙ g.4 in
      let same : l.0 ≡ p = cc in
      let depth_is : f.depth l.0 ≡ f.depth p = ap f.depth same in
      let low' : d ≤ f.depth l.0 = omega (arith, s.0) in
      let same_d = min_low d (f.depth l.0) low' in
      let r' : Sums c f d (l.0 + 1) (l ∷ ls) m = subst (λ x. Sums c f x (l.0 + 1) (l ∷ ls) m) same_d r in
      let sum_is : m ≡ m + best (p + 1) d = omega (arith, z) in
      subst (λ x. Sums c f d (p + 1) (l ∷ ls) x) sum_is (subst (λ q. Sums c f d (q + 1) (l ∷ ls) m) same r')

  -- the greatest value that a loop hands on is that of a path
  loop_done : (p n d : ℕ) → (e : c.shape p ≡ Repeats n) → d ≤ f.depth (c.mate p + 1) → Before (c.mate p + 1) → (ls : Loops) (m : ℕ) → heads ls ≡ around p → Begins ls d m → Sums c f d (c.mate p + 1) ls (m + (best p d + f.added p d + n * gain c f best p d))
  loop_done p n d e low ih ls m inside r =
      let l = good.loop p n e in
      let s = fits.same p n e in
      let low_p : d ≤ f.depth p = omega (arith, s.2) in
      let low_1 : d ≤ f.depth (p + 1) = omega (arith, s.0) in
      let low_q : d ≤ f.depth (c.mate p) = omega (arith, s.1) in
      let before : p < c.mate p + 1 = omega (arith, l.1) in
      let here = ih p before d low_p ls m inside r in
      let opened = plain d p _ _ _ _ low_1 (fits.times p n d e) here (enter n n e l.0 (omega arith)) in
      let n_is : n ≡ suc (n - 1) = omega (arith, l.0) in
      let opened' = subst (λ t. Sums c f d (p + 1) ((p, t) ∷ ls) (m + best p d + f.added p d)) n_is opened in
      let last : c.mate p < c.mate p + 1 = omega arith in
      let same_d = min_low d (f.depth p) low_p in
      let one : (left m' : ℕ) → Sums c f d (p + 1) ((p, left) ∷ ls) m' → Sums c f d (c.mate p) ((p, left) ∷ ls) (m' + best (c.mate p) d) =
      λ left m' r'. ih (c.mate p) last d low_q ((p, left) ∷ ls) m' (ap (λ (hs : List ℕ). p ∷ hs) inside ∙ sym l.5) (subst (λ x. Sums c f x (p + 1) ((p, left) ∷ ls) m') (sym same_d) r') in
      let done = turns_done p n d e low_p ls one (n - 1) (m + best p d + f.added p d) opened' in
      let g = gain c f best p d in
      let times_is : suc (n - 1) * g ≡ n * g = ap (λ x. x * g) (sym n_is) in
      let sum_is : m + best p d + f.added p d + suc (n - 1) * g ≡ m + (best p d + f.added p d + n * g) = omega (arith, times_is) in
      subst (λ x. Sums c f d (c.mate p + 1) ls x) sum_is done

  at_loop : (p n d : ℕ) → (e : c.shape p ≡ Repeats n) → d ≤ f.depth (c.mate p + 1) → Before (c.mate p + 1) → best p d + f.added p d + n * gain c f best p d ≡ best (c.mate p + 1) d → (ls : Loops) (m : ℕ) → heads ls ≡ around (c.mate p + 1) → Begins ls d m → Sums c f d (c.mate p + 1) ls (m + best (c.mate p + 1) d)
  at_loop p n d e low ih is ls m inside r =
      let l = good.loop p n e in
      subst (λ x. Sums c f d (c.mate p + 1) ls (m + x)) is (loop_done p n d e low ih ls m (inside ∙ l.6) r)

  begins_kept : (pc to d : ℕ) (places : List ℕ) (ls : Loops) (m : ℕ) → c.shape pc ≡ GoesTo places → Among places to → d ≤ f.depth to → heads ls ≡ around pc → Begins ls d m → Begins ls (f.source pc d) m
  begins_kept pc to d places [] m e among low inside r = r
  begins_kept pc to d places (l ∷ ls) m e among low inside r =
      let k = fits.kept pc to d places l.0 (heads ls) e among low (sym inside) in
      subst (λ x. Sums c f x (l.0 + 1) (l ∷ ls) m) (sym k) r

  at_source : (pc d : ℕ) → d ≤ f.depth pc → Before pc → Source c f best d pc → (ls : Loops) (m : ℕ) → heads ls ≡ around pc → Begins ls d m → Sums c f d pc ls (m + best pc d)
  at_source pc d low ih (by_go from to places e among is) ls m inside r =
      let g = good.forward from to places e among in
      let inside' = inside ∙ g.2 in
      let low' = fits.from from to d places e among low in
      let here = ih from g.0 (f.source from d) low' ls m inside' (begins_kept from to d places ls m e among low inside' r) in
      let out = more low here (go places e among) in
      let sum_is : m + best from (f.source from d) + f.added from d ≡ m + best to d = omega (arith, is) in
      subst (λ x. Sums c f d to ls x) sum_is out
  at_source pc d low ih (by_turn p n e z) ls m inside r = at_turn p n d e low z ls m inside r
  at_source pc d low ih (by_loop p n e is) ls m inside r = at_loop p n d e low ih is ls m inside r

  at_zero : (d : ℕ) → d ≤ f.depth 0 → (ls : Loops) (m : ℕ) → heads ls ≡ around 0 → Begins ls d m → Sums c f d 0 ls (m + best 0 d)
  at_zero d low [] m inside r =
      let d_is : 0 ≡ d = omega (arith, fits.empty) in
      let z : 0 ≡ m + best 0 0 = omega (arith, sourced.first, r) in
      subst (λ x. Sums c f x 0 [] (m + best 0 x)) d_is (subst (λ x. Sums c f 0 0 [] x) z none)
  at_zero d low (l ∷ ls) m inside r = let no : l.0 ∷ heads ls ≡ [] = inside ∙ good.outside in cc

  attained_below : (k pc : ℕ) → pc < k → pc < bound → (d : ℕ) → d ≤ f.depth pc → (ls : Loops) (m : ℕ) → heads ls ≡ around pc → Begins ls d m → Sums c f d pc ls (m + best pc d)
  attained_below zero pc lt within d low ls m inside r = absurd (omega arith)
  attained_below (suc k) pc lt within d low ls m inside r = by_place (λ q less. attained_below k q (omega arith) (omega arith)) (cases_eq pc 0)
    where
      by_place : Before pc → (pc ≡ 0) ⊎ (pc ≢ 0) → Sums c f d pc ls (m + best pc d)
      by_place ih (inl z) =
          let inside' : heads ls ≡ around 0 = inside ∙ ap around z in
          let low' : d ≤ f.depth 0 = subst (λ q. d ≤ f.depth q) z low in
          subst (λ q. Sums c f d q ls (m + best q d)) (sym z) (at_zero d low' ls m inside' r)
      by_place ih (inr nz) =
          let pos : 0 < pc = omega arith in
          at_source pc d low ih (sourced.source pc d pos within low) ls m inside r

  -- each value of the table is the sum of some path
  pub attained : (pc : ℕ) → pc < bound → (d : ℕ) → d ≤ f.depth pc → (ls : Loops) (m : ℕ) → heads ls ≡ around pc → Begins ls d m → Sums c f d pc ls (m + best pc d)
  attained pc within d low ls m inside r = attained_below (suc pc) pc (omega arith) within d low ls m inside r

  -- some path reaches the place: each loop around it makes one turn
  begins : (ps : List ℕ) (pc d : ℕ) → pc < bound → around pc ≡ ps → (m : ℕ) × Begins (last_turns ps) d m
  begins [] pc d within is = (0, refl)
  begins (p ∷ ps) pc d within is =
      let ((n, e), around_it) = good.nested pc p ps is in
      let less = good.lesser pc p ps is in
      let l = good.loop p n e in
      let x = min d (f.depth p) in
      let (low, low_1) = low_in c around f fits p n d e in
      let p_in : p < bound = omega arith in
      let outer = begins ps p x p_in around_it in
      let inside : heads (last_turns ps) ≡ around p = heads_last ps ∙ sym around_it in
      let here = attained p p_in x low (last_turns ps) outer.0 inside outer.1 in
      (_, plain x p _ _ _ _ low_1 (fits.times p n x e) here (enter n 1 e (omega arith) (omega (arith, l.0))))

  -- each sum that a jump hands on is reached at some point
  pub go_stands : (pc to d : ℕ) (places : List ℕ) → pc < bound → c.shape pc ≡ GoesTo places → Among places to → d ≤ f.depth to → Stands c f (best pc (f.source pc d) + f.added pc d)
  go_stands pc to d places within e among low =
      let b = begins (around pc) pc (f.source pc d) within refl in
      let at = attained pc within (f.source pc d) (fits.from pc to d places e among low) (last_turns (around pc)) b.0 (heads_last (around pc)) b.1 in
      (d, (to, (_, (_, (low, more low at (go places e among), omega arith)))))

  -- each sum that a loop hands on is reached at some point
  pub loop_stands : (p n d : ℕ) → c.mate p < bound → c.shape p ≡ Repeats n → d ≤ f.depth p → Stands c f (best p d + f.added p d + n * gain c f best p d)
  loop_stands p n d within e low =
      let l = good.loop p n e in
      let s = fits.same p n e in
      let p_in : p < bound = omega (arith, l.1) in
      let b = begins (around p) p d p_in refl in
      let low' : d ≤ f.depth (c.mate p + 1) = omega (arith, s.2) in
      let at = loop_done p n d e low' (λ q less. attained q (omega arith)) (last_turns (around p)) b.0 (heads_last (around p)) b.1 in
      (d, (c.mate p + 1, (_, (_, (low', at, omega arith)))))

module _ (c : Skeleton) (around : ℕ → List ℕ) (good : IsStructured c around) (f : Flows) (fits : FitsEntries c around f) (best : ℕ → ℕ → ℕ) (table : IsTable c f best) where
  pub record Bounded (d pc : ℕ) (loops : Loops) (m : ℕ) : Type 0 where
    pub at : IsInside c around good pc loops
    pub low : d ≤ f.depth pc
    pub most : m ≤ base c f best loops d + best pc d

  -- a jump moves no entry that was open at the innermost loop's head
  base_kept : (pc to d : ℕ) (places : List ℕ) (loops : Loops) → c.shape pc ≡ GoesTo places → Among places to → d ≤ f.depth to → heads loops ≡ around pc → base c f best loops (f.source pc d) ≡ base c f best loops d
  base_kept pc to d places [] e among low inside = refl
  base_kept pc to d places (l ∷ ls) e among low inside =
      let k = fits.kept pc to d places l.0 (heads ls) e among low (sym inside) in
      ap (λ x. base c f best ls x + best l.0 x + f.added l.0 x + (bound_of (c.shape l.0) - l.1) * gain c f best l.0 x) k

  -- one loop more, if d is at most the depth at its head
  base_more : (p t d : ℕ) (ls : Loops) → d ≤ f.depth p → base c f best ((p, t) ∷ ls) d ≡ base c f best ls d + best p d + f.added p d + (bound_of (c.shape p) - t) * gain c f best p d
  base_more p t d ls low = ap (λ x. base c f best ls x + best p x + f.added p x + (bound_of (c.shape p) - t) * gain c f best p x) (min_low d (f.depth p) low)

  turns_less : (k t g : ℕ) → t < k → (k - suc t) * g + g ≡ (k - t) * g
  turns_less k t g lt = let e : k - t ≡ suc (k - suc t) = omega arith in rw (e, suc-mul) refl

  most_step : (d pc : ℕ) (loops : Loops) (m to : ℕ) (after : Loops) → d ≤ f.depth to → Bounded (f.source pc d) pc loops m → Follows c pc loops to after → m + f.added pc d ≤ base c f best after d + best to d
  most_step d pc loops m to after low b (go places e among) =
      let u = table.over_go pc to d places e among low in
      let k = base_kept pc to d places loops e among low b.at.inside in
      omega (arith, b.most)
  most_step d pc loops m to after low b (skip n e) =
      let t = fits.times pc n d e in
      let s = fits.same pc n e in
      let low' : d ≤ f.depth pc = omega (arith, s.2) in
      let u = table.over_loop pc n d e low' in
      let most : m ≤ base c f best loops d + best pc d = subst (λ x. m ≤ base c f best loops x + best pc x) t b.most in
      omega arith
  most_step d pc loops m to after low b (enter n turns e pos le) =
      let t = fits.times pc n d e in
      let s = fits.same pc n e in
      let low' : d ≤ f.depth pc = omega (arith, s.0) in
      let z = table.turn pc n d e low' in
      let most : m ≤ base c f best loops d + best pc d = subst (λ x. m ≤ base c f best loops x + best pc x) t b.most in
      let same_d = base_more pc turns d loops low' in
      omega arith
  most_step d pc loops m to after low b (again p left {loops = ls} e pos) =
      let o = own_loop c around good pc p (suc left) ls b.at.inside e in
      let t = fits.next pc d e in
      let s = fits.same p o.0 o.1.0 in
      let low' : d ≤ f.depth p = omega (arith, s.0) in
      let z = table.turn p o.0 d o.1.0 low' in
      let k = bound_of (c.shape p) in
      let lt : left < k = b.at.fit.1 in
      let most : m ≤ base c f best ((p, suc left) ∷ ls) d + best pc d = subst (λ x. m ≤ base c f best ((p, suc left) ∷ ls) x + best pc x) t b.most in
      let before = base_more p (suc left) d ls low' in
      let later = base_more p left d ls low' in
      let g : best pc d + f.added pc d ≡ gain c f best p d = ap (λ q. best q d + f.added q d) (sym o.1.1) in
      let more' = turns_less k left (gain c f best p d) lt in
      omega arith
  most_step d pc loops m to after low b (leave p {loops = ls} e) =
      let o = own_loop c around good pc p 1 ls b.at.inside e in
      let t = fits.next pc d e in
      let s = fits.same p o.0 o.1.0 in
      let place : c.mate p + 1 ≡ pc + 1 = ap (λ q. q + 1) o.1.1 in
      let low' : d ≤ f.depth p = omega (arith, s.2, ap f.depth place) in
      let u = table.over_loop p o.0 d o.1.0 low' in
      let k = bound_of (c.shape p) in
      let lt : 0 < k = b.at.fit.1 in
      let most : m ≤ base c f best ((p, 1) ∷ ls) d + best pc d = subst (λ x. m ≤ base c f best ((p, 1) ∷ ls) x + best pc x) t b.most in
      let before = base_more p 1 d ls low' in
      let g : best pc d + f.added pc d ≡ gain c f best p d = ap (λ q. best q d + f.added q d) (sym o.1.1) in
      let zero_off : k - 0 ≡ k = omega arith in
      let more' : (k - 1) * gain c f best p d + gain c f best p d ≡ k * gain c f best p d = turns_less k 0 (gain c f best p d) lt ∙ ap (λ x. x * gain c f best p d) zero_off in
      let n_is : k ≡ o.0 = ap bound_of o.1.0 in
      let u' : best p d + f.added p d + k * gain c f best p d ≤ best (c.mate p + 1) d = rw n_is u in
      let u'' : best p d + f.added p d + k * gain c f best p d ≤ best (pc + 1) d = rw place at u' in
      omega arith

  bounded_step : (d pc : ℕ) (loops : Loops) (m to : ℕ) (after : Loops) → d ≤ f.depth to → Bounded (f.source pc d) pc loops m → Follows c pc loops to after → Bounded d to after (m + f.added pc d)
  bounded_step d pc loops m to after low b s = record { at = inside_step c around good pc loops to after b.at s; low = low; most = most_step d pc loops m to after low b s }

  pub bounded : (d pc : ℕ) (loops : Loops) (m : ℕ) → Sums c f d pc loops m → Bounded d pc loops m
  bounded d pc loops m none = record { at = inside_start c around good; low = omega arith; most = omega arith }
  bounded d pc loops m (more {pc = from} {loops = ls} {m = before} low r s) = bounded_step d from ls before pc loops low (bounded (f.source from d) from ls before r) s

  most_turns : (ls : Loops) (d : ℕ) → FitTurns c around good ls → base c f best ls d ≤ base c f best (last_turns (heads ls)) d
  most_turns [] d fit = omega arith
  most_turns (l ∷ ls) d fit =
      let k = bound_of (c.shape l.0) in
      let x = min d (f.depth l.0) in
      let g = gain c f best l.0 x in
      let fewer : k - l.1 ≤ k - 1 = omega (arith, fit.0) in
      let m : (k - l.1) * g ≤ (k - 1) * g = mul-le-mul_right g fewer in
      let i : base c f best ls x ≤ base c f best (last_turns (heads ls)) x = most_turns ls x fit.2 in
      omega (arith, m, i)

  pub point_most : (pc : ℕ) (loops : Loops) (m : ℕ) → Sums c f (f.depth pc) pc loops m → m ≤ full c f around best pc
  point_most pc loops m r =
      let b = bounded (f.depth pc) pc loops m r in
      let t = most_turns loops (f.depth pc) b.at.fit in
      let same : base c f best (last_turns (heads loops)) (f.depth pc) ≡ base c f best (last_turns (around pc)) (f.depth pc) = ap (λ hs. base c f best (last_turns hs) (f.depth pc)) b.at.inside in
      omega (arith, b.most)

  to_last : (p n d : ℕ) (e : c.shape p ≡ Repeats n) (low : d ≤ f.depth p) (ls : Loops) → heads ls ≡ around p → (left m : ℕ) → Sums c f d (p + 1) ((p, suc left) ∷ ls) m → Sums c f d (p + 1) ((p, 1) ∷ ls) (m + left * gain c f best p d)
  to_last p n d e low ls inside zero m r = let z : m ≡ m + 0 * gain c f best p d = omega (arith, zero-mul (gain c f best p d)) in subst (λ x. Sums c f d (p + 1) ((p, 1) ∷ ls) x) z r
  to_last p n d e low ls inside (suc left) m r =
      let l = good.loop p n e in
      let s = fits.same p n e in
      let g = gain c f best p d in
      let mate_in : c.mate p < c.size = omega (arith, l.2) in
      let low_q : d ≤ f.depth (c.mate p) = omega (arith, s.1) in
      let low_1 : d ≤ f.depth (p + 1) = omega (arith, s.0) in
      let same_d = min_low d (f.depth p) low in
      let r' : Sums c f (min d (f.depth p)) (p + 1) ((p, suc (suc left)) ∷ ls) m = subst (λ x. Sums c f x (p + 1) ((p, suc (suc left)) ∷ ls) m) (sym same_d) r in
      let at = attained c around good f fits best c.size table.sourced (c.mate p) mate_in d low_q ((p, suc (suc left)) ∷ ls) m (ap (λ (hs : List ℕ). p ∷ hs) inside ∙ sym l.5) r' in
      let out = plain c around good f fits best c.size table.sourced d (c.mate p) _ _ _ _ low_1 (fits.next (c.mate p) d l.3) at (again p (suc left) l.3 (omega arith)) in
      let rest = to_last p n d e low ls inside left (m + best (c.mate p) d + f.added (c.mate p) d) out in
      let same : m + best (c.mate p) d + f.added (c.mate p) d + left * g ≡ m + suc left * g = omega (arith, suc-mul left g) in
      subst (λ x. Sums c f d (p + 1) ((p, 1) ∷ ls) x) same rest

  begins_last : (ps : List ℕ) (pc d : ℕ) → around pc ≡ ps → Begins c around good f fits best c.size table.sourced (last_turns ps) d (base c f best (last_turns ps) d)
  begins_last [] pc d is = refl
  begins_last (p ∷ ps) pc d is =
      let ((n, e), around_it) = good.nested pc p ps is in
      let l = good.loop p n e in
      let x = min d (f.depth p) in
      let (low, low_1) = low_in c around f fits p n d e in
      let outer = begins_last ps p x around_it in
      let inside : heads (last_turns ps) ≡ around p = heads_last ps ∙ sym around_it in
      let p_in : p < c.size = omega (arith, l.1, l.2) in
      let here = attained c around good f fits best c.size table.sourced p p_in x low (last_turns ps) (base c f best (last_turns ps) x) inside outer in
      let opened = plain c around good f fits best c.size table.sourced x p _ _ _ _ low_1 (fits.times p n x e) here (enter n n e l.0 (omega arith)) in
      let n_is : n ≡ suc (n - 1) = omega (arith, l.0) in
      let opened' = subst (λ t. Sums c f x (p + 1) ((p, t) ∷ last_turns ps) (base c f best (last_turns ps) x + best p x + f.added p x)) n_is opened in
      let bound_is : n - 1 ≡ bound_of (c.shape p) - 1 = ap (λ sh. bound_of sh - 1) (sym e) in
      let last = to_last p n x e low (last_turns ps) inside (n - 1) (base c f best (last_turns ps) x + best p x + f.added p x) opened' in
      subst (λ y. Sums c f x (p + 1) ((p, 1) ∷ last_turns ps) (base c f best (last_turns ps) x + best p x + f.added p x + y * gain c f best p x)) bound_is last

  pub point_attained : (pc : ℕ) → pc < c.size → Sums c f (f.depth pc) pc (last_turns (around pc)) (full c f around best pc)
  point_attained pc within =
      let le : f.depth pc ≤ f.depth pc = omega arith in
      attained c around good f fits best c.size table.sourced pc within (f.depth pc) le (last_turns (around pc)) (base c f best (last_turns (around pc)) (f.depth pc)) (heads_last (around pc)) (begins_last (around pc) pc (f.depth pc) refl)

  -- inside a loop the greatest sum is counted from the last turn's start
  pub full_inside : (pc p : ℕ) (ps : List ℕ) → around pc ≡ p ∷ ps → full c f around best pc ≡ turn_base c f around best p + best pc (f.depth pc)
  full_inside pc p ps is =
      let q = good.nested pc p ps is in
      let deep = fits.deeper pc p ps is in
      let m : min (f.depth pc) (f.depth p) ≡ f.depth p = omega arith in
      let a : base c f best (last_turns (around pc)) (f.depth pc) ≡ base c f best (last_turns (p ∷ ps)) (f.depth pc) = ap (λ hs. base c f best (last_turns hs) (f.depth pc)) is in
      let b : base c f best (last_turns (p ∷ ps)) (f.depth pc) ≡ base c f best (last_turns ps) (f.depth p) + best p (f.depth p) + f.added p (f.depth p) + (bound_of (c.shape p) - 1) * gain c f best p (f.depth p) =
      ap (λ x. base c f best (last_turns ps) x + best p x + f.added p x + (bound_of (c.shape p) - 1) * gain c f best p x) m in
      let o : base c f best (last_turns (around p)) (f.depth p) ≡ base c f best (last_turns ps) (f.depth p) = ap (λ hs. base c f best (last_turns hs) (f.depth p)) q.1 in
      omega arith

  pub full_outside : (pc : ℕ) → around pc ≡ [] → full c f around best pc ≡ best pc (f.depth pc)
  full_outside pc is =
      let a : base c f best (last_turns (around pc)) (f.depth pc) ≡ 0 = ap (λ hs. base c f best (last_turns hs) (f.depth pc)) is in
      omega arith
