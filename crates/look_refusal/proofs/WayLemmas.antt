-- The ways to a place: along the edges of one before it, and the first one.
use Rattle.std.proofs.Common.{◌≡◌, ◌≢◌, ℕ, ◌+◌, ◌<◌, ◌≤◌, ◌⊎◌, inl, inr, List, [], ◌∷◌, zero, suc, Option, Some, None, Ok, length, slice_get, refl, sym, ap, ◌∙◌, subst, arith, below_more}
use Rattle.std.specs.Prelude.{MatchOption}
use Rattle.std.proofs.lemmas.Option.{same_Some, slice_get_within}
use Rattle.sts_code.specs.Program.{Program}
use Rattle.sts_rules.specs.Edges.{edges, typing}
use Rattle.sts_rules.specs.Flow.{Reaches, Leads, first, then, IsAlone}
use Rattle.sts_rules.specs.TypeState.{TypeState, entry}
use Rattle.look_refusal.specs.declared.ways.WayOrigin.TheVariants.{Beginning, Edge}
use Rattle.look_refusal.specs.declared.ways.Way.{Way}
use Rattle.look_refusal.specs.Ways.{IsWayTo, IsOtherWay, ArriveAlike, IsReached}
use Rattle.look_refusal.proofs.ForwardLemmas.{forward}

-- the edge at a number of a list is one of its edges
pub leads_at : (out : List (ℕ × TypeState)) (n : ℕ) (e : ℕ × TypeState) → slice_get out n ≡ Some e → Leads out e.0 e.1
leads_at [] n e h = absurd (cc)
leads_at (x ∷ xs) zero e h = let same : x ≡ e = same_Some x e h in inl (ap (λ (y : ℕ × TypeState). y.0) same, ap (λ (y : ℕ × TypeState). y.1) same)
leads_at (x ∷ xs) (suc n) e h = inr (leads_at xs n e h)

-- each of its edges has a number
number_of : (out : List (ℕ × TypeState)) (to : ℕ) (s : TypeState) → Leads out to s → (n : ℕ) × (slice_get out n ≡ Some (to, s))
number_of [] to s l = absurd l
number_of (e ∷ es) to s (inl h) = (zero, ap (λ (k : ℕ). Some (k, e.1)) h.0 ∙ ap (λ (x : TypeState). Some (to, x)) h.1)
number_of (e ∷ es) to s (inr l) = let m = number_of es to s l in (suc m.0, m.1)

-- ---- along the edges of one place, which one typestate reaches

-- each of the first edges that leads there leads there with the typestate `known`
abbrev pub AreAlike : Option TypeState → ℕ → List (ℕ × TypeState) → ℕ → Type 0
AreAlike known to out count = (n : ℕ) → n < count → (s : TypeState) → slice_get out n ≡ Some (to, s) → known ≡ Some s

-- one more
pub alike_more : (known : Option TypeState) (to : ℕ) (out : List (ℕ × TypeState)) (n : ℕ) (e : ℕ × TypeState) → slice_get out n ≡ Some e → (e.0 ≡ to → known ≡ Some e.1) → AreAlike known to out n → AreAlike known to out (n + 1)
alike_more known to out n e at here alike = below_more (λ (k : ℕ). (s : TypeState) → slice_get out k ≡ Some (to, s) → known ≡ Some s) n alike one
  where
    one : (s : TypeState) → slice_get out n ≡ Some (to, s) → known ≡ Some s
    one s is = let same : e ≡ (to, s) = same_Some e (to, s) (sym at ∙ is) in here (ap (λ (x : ℕ × TypeState). x.0) same) ∙ ap (λ (x : ℕ × TypeState). Some x.1) same

module _ (p : Program) (f from to : ℕ) (state : TypeState) (alone : IsAlone (typing p f) from state) (out : List (ℕ × TypeState)) (fine : edges p f from state ≡ Ok out) where
  -- an edge is a way to where it leads
  pub edge_way : (n : ℕ) (e : ℕ × TypeState) (s : TypeState) → slice_get out n ≡ Some e → e.0 ≡ to → s ≡ e.1 → IsWayTo p f to (record { origin = Edge from n; state = s })
  edge_way n e s at there copied =
      let is : slice_get out n ≡ Some (to, s) = at ∙ ap (λ (k : ℕ). Some (k, e.1)) there ∙ ap (λ (x : TypeState). Some (to, x)) (sym copied) in
      ((state, (out, (alone.0, fine, is))), (then) from state out alone.0 fine (leads_at out n (to, s) is))

  -- all edges were tested
  pub all_arrive : (known : Option TypeState) (count : ℕ) → length out ≤ count → AreAlike known to out count → ArriveAlike p f to known from
  all_arrive known count long tested n s h =
      let both : Ok out ≡ Ok h.1.0 = sym fine ∙ ap (edges p f from) (sym (alone.1 h.0 h.1.1.0)) ∙ h.1.1.1 in
      let same : out ≡ h.1.0 = cc in
      let is : slice_get out n ≡ Some (to, s) = ap (λ (es : List (ℕ × TypeState)). slice_get es n) same ∙ h.1.1.2 in
      tested n (omega (arith, slice_get_within out n (to, s) is)) s is

-- ---- all ways

-- the beginning of a function
pub first_way : (p : Program) (f to : ℕ) (s : TypeState) → to ≡ 0 → s ≡ entry p f → IsWayTo p f to (record { origin = Beginning; state = s })
first_way p f to s at is = ((at, is), subst (λ (x : TypeState). Reaches (typing p f) to x) (sym is) (subst (λ (k : ℕ). Reaches (typing p f) k (entry p f)) (sym at) first))

-- if all ways from places before arrive with the typestate `known`, only the first typestate and it
-- reach the place
reached_alike : (p : Program) (f to : ℕ) (known : Option TypeState) (s : TypeState) → ((from : ℕ) → from < to → ArriveAlike p f to known from) → Reaches (typing p f) to s → ((to ≡ 0) × (s ≡ entry p f)) ⊎ (known ≡ Some s)
reached_alike p f to known s alike first = inl (refl, refl)
reached_alike p f to known s alike (then from before out r e l) =
    let n = number_of out to s l in
    inr (alike from (forward p f from before out to s e l) n.0 s (before, (out, (r, e, n.1))))

-- if none arrives at a later place, no typestate reaches it
pub first_found : (p : Program) (f to : ℕ) (r : Option Way) → to ≢ 0 → MatchOption r ((from : ℕ) → from < to → ArriveAlike p f to None from) (IsOtherWay p f to None) → MatchOption r (IsReached p f to → ⊥) (IsWayTo p f to)
first_found p f to (Some w) ne h = h.0
first_found p f to None ne alike = λ reached. elim (reached_alike p f to None reached.0 alike reached.1) [ inl at ↦ ne at.0 | inr e ↦ absurd (cc) ]

-- only one typestate reaches the first place
alone_first : (p : Program) (f to : ℕ) (s : TypeState) → to ≡ 0 → Reaches (typing p f) to s → s ≡ entry p f
alone_first p f to s e first = refl
alone_first p f to s e (then from before out r g l) = let lt = forward p f from before out to s g l in absurd (omega arith)

-- if no other one arrives, only the typestate of the way reaches the place
pub alone_there : (p : Program) (f to : ℕ) (w : Way) → IsWayTo p f to w → ((from : ℕ) → from < to → ArriveAlike p f to (Some w.state) from) → IsAlone (typing p f) to w.state
alone_there p f to w way alike = (
  way.1,
  λ s r. elim (reached_alike p f to (Some w.state) s alike r) [
    | inl begun ↦ begun.1 ∙ sym (alone_first p f to w.state begun.0 way.1)
    | inr same ↦ sym (same_Some w.state s same)
  ],
)
