-- The names of the open entries fit the instructions and the jumps (this project's own).
use Rattle.std.proofs.Common.{◌≡◌, ℕ, ◌+◌, ◌<◌, ◌≤◌, List, [], ◌∷◌, length}
use Rattle.sts_code.specs.Program.{Program, instr_at}
use Rattle.sts_code.specs.declared.instr.Instr.{Instr}
use Rattle.sts_code.specs.declared.instr.Instr.TheVariants.{Times, Next}
use Rattle.sts_rules.specs.Flow.{Reaches}
use Rattle.sts_rules.specs.TypeState.{TypeState}
use Rattle.sts_rules.specs.Edges.{typing}
use Rattle.sts_rules.specs.ControlPaths.{GoesTo, Repeats, EndsTurn, Skeleton, Among}
use Rattle.sts_budget.specs.Layout.{EntryNames, names_after, FitsNames}
use Rattle.sts_budget.specs.TypedNames.{names}

-- the names of the open entries at each place fit the instructions and the jumps
pub record KnowsNames (code : List Instr) (c : Skeleton) (round : ℕ → List ℕ) (names_at : ℕ → EntryNames)
    : Type 0 where
  pub empty : names_at 0 ≡ []
  pub over_go : (pc to : ℕ) (places : List ℕ) → c.shape pc ≡ GoesTo places → Among places to
      → names_at to ≡ names_after (instr_at code pc) (names_at pc)
  pub same : (pc n : ℕ) → c.shape pc ≡ Repeats n → (names_at (pc + 1) ≡ names_at pc)
      × (names_at (c.mate pc) ≡ names_at pc) × (names_at (c.mate pc + 1) ≡ names_at pc)
  pub times : (pc n : ℕ) → c.shape pc ≡ Repeats n → instr_at code pc ≡ Times n
  pub next : (pc : ℕ) → c.shape pc ≡ EndsTurn → instr_at code pc ≡ Next
  pub fit : (pc : ℕ) → pc < c.size → FitsNames (instr_at code pc) (names_at pc)
  pub deeper : (pc h : ℕ) (hs : List ℕ) → round pc ≡ h ∷ hs
      → length (names_at h) ≤ length (names_at pc)

-- each typestate that reaches a place has the names of the place
abbrev pub NamesRight : Program → ℕ → (ℕ → EntryNames) → Type 0
NamesRight p f names_at =
    (pc : ℕ) (s : TypeState) → Reaches (typing p f) pc s → names s.entries ≡ names_at pc
