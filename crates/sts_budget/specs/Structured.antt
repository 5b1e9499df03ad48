-- Structured code: the facts that follow from the conditions on jumps and loops (this project's
-- own).
use Rattle.std.proofs.Common.{◌≡◌, ℕ, ◌+◌, ◌<◌, List, [], ◌∷◌}
use Rattle.sts_rules.specs.ControlPaths.{Shape, GoesTo, Repeats, EndsTurn, Skeleton, Among, Loops}

-- the places of the `times` of the open loops
abbrev pub heads : Loops → List ℕ
heads [] = []
heads (l ∷ ls) = l.0 ∷ heads ls

-- the most turns of a loop
abbrev pub bound_of : Shape → ℕ
bound_of (Repeats n) = n
bound_of _ = 0

-- the facts that follow from the conditions on jumps; `around` has the heads of the loops around a
-- place
pub record IsStructured (c : Skeleton) (around : ℕ → List ℕ) : Type 0 where
  pub outside : around 0 ≡ []
  pub some : (pc : ℕ) (places : List ℕ) → c.shape pc ≡ GoesTo places → (to : ℕ) × Among places to
  pub forward : (pc to : ℕ) (places : List ℕ) → c.shape pc ≡ GoesTo places → Among places to
      → (pc < to) × (to < c.size) × (around to ≡ around pc)
  pub loop : (p n : ℕ) → c.shape p ≡ Repeats n → (0 < n) × (p < c.mate p) × (c.mate p + 1 < c.size)
      × (c.shape (c.mate p) ≡ EndsTurn) × (around (p + 1) ≡ p ∷ around p)
      × (around (c.mate p) ≡ p ∷ around p) × (around (c.mate p + 1) ≡ around p)
  pub nested : (pc p : ℕ) (ps : List ℕ) → around pc ≡ p ∷ ps
      → ((n : ℕ) × (c.shape p ≡ Repeats n)) × (around p ≡ ps)
  pub lesser : (pc p : ℕ) (ps : List ℕ) → around pc ≡ p ∷ ps → p < pc
  pub some_code : 0 < c.size
  pub end : (pc : ℕ) → c.shape pc ≡ EndsTurn
      → (p : ℕ) × ((n : ℕ) × ((c.shape p ≡ Repeats n) × (c.mate p ≡ pc)))

-- each place except the first comes after a place before it
pub data Led (c : Skeleton) : ℕ → Type 0 where
  from_go : (from pc : ℕ) (places : List ℕ) → c.shape from ≡ GoesTo places → Among places pc
      → Led c pc
  from_head : (p n : ℕ) → c.shape p ≡ Repeats n → Led c (p + 1)
  from_end : (p n : ℕ) → c.shape p ≡ Repeats n → Led c (c.mate p + 1)
