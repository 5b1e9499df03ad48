-- Structured code: its paths go forward. They enter a loop only by its head, and leave it only by
-- its end. Every point of a path is on a whole path.
use Rattle.std.proofs.Common.{◌≡◌, ℕ, zero, suc, ◌+◌, ◌-◌, ◌<◌, ◌≤◌, List, [], ◌∷◌, refl, sym, ap, ◌∙◌, subst, arith}
use Rattle.sts_rules.specs.ControlPaths.{Shape, GoesTo, Repeats, EndsTurn, EndsPath, OpenEntry, Skeleton, Loops, Follows, go, skip, enter, again, leave, Comes}
use Rattle.sts_rules.specs.ControlPaths.{start, step, PathCounts}
use Rattle.sts_budget.specs.Structured.{heads, bound_of, IsStructured}

module _ (c : Skeleton) (around : ℕ → List ℕ) (good : IsStructured c around) where
  -- each open loop has a turn under way
  abbrev pub FitTurns : Loops → Type 0
  FitTurns [] = Unit {0}
  FitTurns (l ∷ ls) = (0 < l.1) × (l.1 ≤ bound_of (c.shape l.0)) × FitTurns ls

  -- an instruction that ends a turn ends the innermost loop's turn
  pub own_loop : (pc p t : ℕ) (ls : Loops) → heads ((p, t) ∷ ls) ≡ around pc → c.shape pc ≡ EndsTurn → (n : ℕ) × ((c.shape p ≡ Repeats n) × (c.mate p ≡ pc) × (heads ls ≡ around p))
  own_loop pc p t ls inside e =
      let q = good.end pc e in
      let l = good.loop q.0 q.1.0 q.1.1.0 in
      let a : p ∷ heads ls ≡ q.0 ∷ around q.0 = inside ∙ ap around (sym q.1.1.1) ∙ l.5 in
      let same : p ≡ q.0 = cc in
      let rest : heads ls ≡ around q.0 = cc in
      (q.1.0, (ap c.shape same ∙ q.1.1.0, ap c.mate same ∙ q.1.1.1, rest ∙ ap around (sym same)))

  -- the open loops are those around the place, each in a turn
  pub record IsInside (pc : ℕ) (loops : Loops) : Type 0 where
    pub within : pc < c.size
    pub inside : heads loops ≡ around pc
    pub fit : FitTurns loops

  pub inside_step : (pc : ℕ) (loops : Loops) (to : ℕ) (after : Loops) → IsInside pc loops → Follows c pc loops to after → IsInside to after
  inside_step pc loops to after i (go places e among) =
      let f = good.forward pc to places e among in
      record { within = f.1; inside = i.inside ∙ sym f.2; fit = i.fit }
  inside_step pc loops to after i (skip n e) =
      let l = good.loop pc n e in
      record { within = l.2; inside = i.inside ∙ sym l.6; fit = i.fit }
  inside_step pc loops to after i (enter n turns e pos le) =
      let l = good.loop pc n e in
      let turns_le : turns ≤ bound_of (c.shape pc) = rw e le in
      record { within = omega (arith, l.1, l.2); inside = ap (λ (ls : List ℕ). pc ∷ ls) i.inside ∙ sym l.4; fit = (pos, turns_le, i.fit) }
  inside_step pc loops to after i (again p left {loops = ls} e pos) =
      let o = own_loop pc p (suc left) ls i.inside e in
      let l = good.loop p o.0 o.1.0 in
      let left_le : left ≤ bound_of (c.shape p) = omega (arith, i.fit.1) in
      record { within = omega (arith, l.1, l.2); inside = ap (λ (hs : List ℕ). p ∷ hs) o.1.2 ∙ sym l.4; fit = (pos, left_le, i.fit.2) }
  inside_step pc loops to after i (leave p {loops = ls} e) =
      let o = own_loop pc p 1 ls i.inside e in
      let l = good.loop p o.0 o.1.0 in
      let place : c.mate p + 1 ≡ pc + 1 = ap (λ q. q + 1) o.1.1 in
      record { within = omega (arith, l.2, o.1.1); inside = o.1.2 ∙ sym l.6 ∙ ap around place; fit = i.fit.2 }

  pub inside_start : IsInside 0 []
  inside_start = record { within = good.some_code; inside = sym good.outside; fit = tt }

  pub comes_inside : (pc : ℕ) (loops : Loops) (m : ℕ) (es : List OpenEntry) → Comes c pc loops m es → IsInside pc loops
  comes_inside pc loops m es start = inside_start
  comes_inside pc loops m es (step {pc = from} {loops = ls} {before = before} {entries = entries} r f) = inside_step from ls pc loops (comes_inside from ls before entries r) f

  -- from each place some path reaches an end, or the end of the innermost loop's turn, and loses no
  -- step
  pub data Goes (pc : ℕ) (ls : Loops) (m : ℕ) : Type 0 where
    ends : (at before : ℕ) (after : Loops) (es : List OpenEntry) → Comes c at after before es → c.shape at ≡ EndsPath → m + c.weight pc ≤ before + c.weight at → Goes pc ls m
    turned : (at before : ℕ) (es : List OpenEntry) → Comes c at ls before es → c.shape at ≡ EndsTurn → heads ls ≡ around at → m + c.weight pc ≤ before + c.weight at → Goes pc ls m

  carry : (pc to : ℕ) (ls : Loops) (m : ℕ) → Goes to ls (m + c.weight pc) → Goes pc ls m
  carry pc to ls m (ends at before after es r e le) = ends at before after es r e (omega arith)
  carry pc to ls m (turned at before es r e inside le) = turned at before es r e inside (omega arith)

  goes : (k pc : ℕ) → c.size ≤ pc + k → pc < c.size → (ls : Loops) (m : ℕ) (es : List OpenEntry) → heads ls ≡ around pc → Comes c pc ls m es → Goes pc ls m
  goes zero pc far within ls m es inside r = absurd (omega arith)
  goes (suc k) pc far within ls m es inside r = by (λ to. goes k to) (c.shape pc) refl
    where
      by : ((to : ℕ) → c.size ≤ to + k → to < c.size → (ls' : Loops) (m' : ℕ) (es' : List OpenEntry) → heads ls' ≡ around to → Comes c to ls' m' es' → Goes to ls' m') → (s : Shape) → c.shape pc ≡ s → Goes pc ls m
      by ih (GoesTo places) e =
          let t = good.some pc places e in
          let f = good.forward pc t.0 places e t.1 in
          carry pc t.0 ls m (ih t.0 (omega (arith, f.0)) f.1 ls (m + c.weight pc) _ (inside ∙ sym f.2) (step r (go places e t.1)))
      by ih (Repeats n) e =
          let l = good.loop pc n e in
          carry pc (c.mate pc + 1) ls m (ih (c.mate pc + 1) (omega (arith, l.1)) l.2 ls (m + c.weight pc) _ (inside ∙ sym l.6) (step r (skip n e)))
      by ih EndsTurn e = turned pc m es r e inside (omega arith)
      by ih EndsPath e = ends pc m ls es r e (omega arith)

  -- a whole path that counts at least m
  abbrev pub Counts : ℕ → Type 0
  Counts m = (more : ℕ) × (PathCounts c more × (m ≤ more))

  weaker : (a b : ℕ) → a ≤ b → Counts b → Counts a
  weaker a b le w = (w.0, (w.1.0, omega (arith, w.1.1)))

  ended : (pc m at before : ℕ) (after : Loops) (es : List OpenEntry) → Comes c at after before es → c.shape at ≡ EndsPath → m + c.weight pc ≤ before + c.weight at → Counts (m + c.weight pc)
  ended pc m at before after es r e le = (before + c.weight at, ((at, (after, (before, (es, (r, e, refl))))), le))

  -- from places with these loops open, each path can be made whole
  abbrev pub IsMadeWhole : Loops → Type 0
  IsMadeWhole ls = (pc m : ℕ) (es : List OpenEntry) → pc < c.size → heads ls ≡ around pc → Comes c pc ls m es → Counts (m + c.weight pc)

  last_turn : (p n : ℕ) (e : c.shape p ≡ Repeats n) (ls : Loops) → IsMadeWhole ls → (pc m : ℕ) → Goes pc ((p, 1) ∷ ls) m → Counts (m + c.weight pc)
  last_turn p n e ls rest pc m (ends at before after es r e' le) = ended pc m at before after es r e' le
  last_turn p n e ls rest pc m (turned at before es r e' inside le) =
      let o = own_loop at p 1 ls inside e' in
      let l = good.loop p o.0 o.1.0 in
      let place : c.mate p + 1 ≡ at + 1 = ap (λ q. q + 1) o.1.1 in
      let next_in : at + 1 < c.size = omega (arith, l.2) in
      let w = rest (at + 1) (before + c.weight at) _ next_in (o.1.2 ∙ sym l.6 ∙ ap around place) (step r (leave p e')) in
      weaker _ _ (omega arith) w

  more_turns : (p n : ℕ) (e : c.shape p ≡ Repeats n) (ls : Loops) (left : ℕ) → IsMadeWhole ((p, suc left) ∷ ls) → (pc m : ℕ) → Goes pc ((p, suc (suc left)) ∷ ls) m → Counts (m + c.weight pc)
  more_turns p n e ls left rest pc m (ends at before after es r e' le) = ended pc m at before after es r e' le
  more_turns p n e ls left rest pc m (turned at before es r e' inside le) =
      let o = own_loop at p (suc (suc left)) ls inside e' in
      let l = good.loop p o.0 o.1.0 in
      let next_in : p + 1 < c.size = omega (arith, l.1, l.2) in
      let w = rest (p + 1) (before + c.weight at) _ next_in (ap (λ (hs : List ℕ). p ∷ hs) o.1.2 ∙ sym l.4) (step r (again p (suc left) e' (omega arith))) in
      weaker _ _ (omega arith) w

  out_of_loop : (p n : ℕ) (e : c.shape p ≡ Repeats n) (ls : Loops) → IsMadeWhole ls → (left : ℕ) → IsMadeWhole ((p, suc left) ∷ ls)
  out_of_loop p n e ls rest zero pc m es within inside r = last_turn p n e ls rest pc m (goes c.size pc (omega arith) within ((p, 1) ∷ ls) m es inside r)
  out_of_loop p n e ls rest (suc left) pc m es within inside r = more_turns p n e ls left (out_of_loop p n e ls rest left) pc m (goes c.size pc (omega arith) within ((p, suc (suc left)) ∷ ls) m es inside r)

  no_loop : IsMadeWhole []
  no_loop pc m es within inside r = by (goes c.size pc (omega arith) within [] m es inside r)
    where
      by : Goes pc [] m → Counts (m + c.weight pc)
      by (ends at before after es' r' e' le) = ended pc m at before after es' r' e' le
      by (turned at before es' r' e' inside' le) =
          let q = good.end at e' in
          let l = good.loop q.0 q.1.0 q.1.1.0 in
          let no : [] ≡ q.0 ∷ around q.0 = inside' ∙ ap around (sym q.1.1.1) ∙ l.5 in
          cc

  made_whole : (ls : Loops) → FitTurns ls → IsMadeWhole ls
  made_whole [] fit = no_loop
  made_whole (l ∷ ls) fit = by (c.shape l.0) refl (made_whole ls fit.2)
    where
      none : (b : ℕ) → bound_of (c.shape l.0) ≡ b → b ≡ 0 → IsMadeWhole (l ∷ ls)
      none b e z = let no : ⊥ = omega (arith, fit.0, fit.1) in absurd no

      by : (s : Shape) → c.shape l.0 ≡ s → IsMadeWhole ls → IsMadeWhole (l ∷ ls)
      by (Repeats n) e rest =
          let left_is : suc (l.1 - 1) ≡ l.1 = omega (arith, fit.0) in
          subst (λ t. IsMadeWhole ((l.0, t) ∷ ls)) left_is (out_of_loop l.0 n e ls rest (l.1 - 1))
      by _ e rest = none 0 (ap bound_of e) refl

  -- every point of every path is on a whole path, which counts at least as much
  pub at_points : (pc : ℕ) (loops : Loops) (m : ℕ) (es : List OpenEntry) → Comes c pc loops m es → Counts (m + c.weight pc)
  at_points pc loops m es r = let i = comes_inside pc loops m es r in made_whole loops i.fit pc m es i.within i.inside r
