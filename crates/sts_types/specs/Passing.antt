-- How far a forward pass over a function has come (this project's own).
use Rattle.std.specs.Prelude.{◌≡◌, ◌≢◌, ℕ, ◌<◌, List, Ok, length, slice_index_or}
use Rattle.sts_code.specs.Program.{Program}
use Rattle.sts_rules.specs.Edges.{typing}
use Rattle.sts_rules.specs.Flow.{Flow, Leads, Reaches, IsClear}
use Rattle.sts_rules.specs.Refusal.{size}
use Rattle.sts_rules.specs.TypeState.{TypeState}
use Rattle.sts_types.specs.declared.arrival.Arrival.{Arrival}
use Rattle.sts_types.specs.declared.arrival.Arrival.TheVariants.{Nothing, One, Several}

-- the arrival that represents the states P
abbrev pub Stands : {S : Type 0} → (S → Type 0) → Arrival S → Type 0
Stands {S} P Nothing = (s : S) → P s → ⊥
Stands {S} P (One s) = P s × ((other : S) → P other → other ≡ s)
Stands {S} P Several = (a : S) × ((b : S) × (P a × P b × (a ≢ b)))

-- what arrives from the places below k
pub data Below {S C : Type 0} (f : Flow S C) (k : ℕ) : ℕ → S → Type 0 where
  at_entry : Below f k 0 f.entry
  out_of : (from : ℕ) (before : S) (out : List (ℕ × S)) {pc : ℕ} {s : S} → from < k → Reaches f from before → f.edges from before ≡ Ok out → Leads out pc s → Below f k pc s

-- the pass up to k: the table represents all that arrives from the places below k, and no cause
-- holds at these
pub record Passed {S C : Type 0} (f : Flow S C) (n : ℕ) (table : List (Arrival S)) (k : ℕ) : Type 0 where
  pub holds : (length table ≡ n) × ((pc : ℕ) → pc < n → Stands (Below f k pc) (slice_index_or table pc Nothing))
  pub clear : (pc : ℕ) → pc < k → IsClear f pc

-- the pass over a function of the program
abbrev pub PassedTo : Program → ℕ → List (Arrival TypeState) → ℕ → Type 0
PassedTo p f table k = Passed (typing p f) (size p f) table k
