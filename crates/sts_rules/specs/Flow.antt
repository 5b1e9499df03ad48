-- A forward flow of states over the places 0, 1, ..: which states reach which place, and the
-- verdict on each place (this project's own).
use Rattle.std.specs.Prelude.{◌≡◌, ◌≢◌, ℕ, ◌<◌, ◌⊎◌, List, [], ◌∷◌, Option, Some, Result, Ok, Err}

-- S: the states, C: the causes of a refusal
pub record Flow (S C : Type 0) : Type 0 where
  -- the following places with their states, or the cause that holds there
  pub edges : ℕ → S → Result (List (ℕ × S)) C
  -- at the end of a loop: the place where the state must be the same as here
  pub back : ℕ → S → Option ℕ
  pub entry : S
  -- the cause if no state arrives, and the cause if two states differ
  pub dead : C
  pub differ : C

-- the list has this pair
abbrev pub Leads : {S : Type 0} → List (ℕ × S) → ℕ → S → Type 0
Leads [] pc s = ⊥
Leads (e ∷ es) pc s = ((e.0 ≡ pc) × (e.1 ≡ s)) ⊎ Leads es pc s

-- the least set of pairs that holds the entry at 0 and is closed under the edges
pub data Reaches {S C : Type 0} (f : Flow S C) : ℕ → S → Type 0 where
  first : Reaches f 0 f.entry
  then : (from : ℕ) (before : S) (out : List (ℕ × S)) {pc : ℕ} {s : S} → Reaches f from before
      → f.edges from before ≡ Ok out → Leads out pc s → Reaches f pc s

-- s reaches the place, and no other state does
abbrev pub IsAlone : {S C : Type 0} → Flow S C → ℕ → S → Type 0
IsAlone {S} f pc s = Reaches f pc s × ((other : S) → Reaches f pc other → other ≡ s)

abbrev pub IsDead : {S C : Type 0} → Flow S C → ℕ → Type 0
IsDead {S} f pc = (s : S) → Reaches f pc s → ⊥

abbrev pub HasTwo : {S C : Type 0} → Flow S C → ℕ → Type 0
HasTwo {S} f pc = (a : S) × ((b : S) × (Reaches f pc a × Reaches f pc b × (a ≢ b)))

-- a state other than s reaches the place that a loop goes back to from here
abbrev pub TurnDiffers : {S C : Type 0} → Flow S C → ℕ → S → Type 0
TurnDiffers {S} f pc s =
    (q : ℕ) × ((other : S) × ((f.back pc s ≡ Some q) × Reaches f q other × (other ≢ s)))

-- only s reaches the place that a loop goes back to from here
abbrev pub TurnKeeps : {S C : Type 0} → Flow S C → ℕ → S → Type 0
TurnKeeps {S} f pc s = (q : ℕ) (other : S) → f.back pc s ≡ Some q → Reaches f q other → other ≡ s

-- no cause holds at the place
pub record IsClear {S C : Type 0} (f : Flow S C) (pc : ℕ) : Type 0 where
  pub state : S
  pub out : List (ℕ × S)
  pub alone : IsAlone f pc state
  pub fine : f.edges pc state ≡ Ok out
  pub same : TurnKeeps f pc state

-- c is the cause that counts at the place
pub data HasCause {S C : Type 0} (f : Flow S C) (pc : ℕ) : C → Type 0 where
  dead : IsDead f pc → HasCause f pc f.dead
  two : HasTwo f pc → HasCause f pc f.differ
  edge : (s : S) {c : C} → IsAlone f pc s → f.edges pc s ≡ Err c → HasCause f pc c
  turn : (s : S) (out : List (ℕ × S)) → IsAlone f pc s → f.edges pc s ≡ Ok out → TurnDiffers f pc s
      → HasCause f pc f.differ

-- the first place below n with a cause, and the cause that counts there
abbrev pub IsRefusal : {S C : Type 0} → Flow S C → ℕ → ℕ → C → Type 0
IsRefusal f n pc c = (pc < n) × HasCause f pc c × ((earlier : ℕ) → earlier < pc → IsClear f earlier)

abbrev pub IsAccepted : {S C : Type 0} → Flow S C → ℕ → Type 0
IsAccepted f n = (pc : ℕ) → pc < n → IsClear f pc
