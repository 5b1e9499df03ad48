-- The promises of typing to the machine, for each typestate that is reached (this project's own).
use Rattle.std.specs.Prelude.{◌≡◌, ℕ, ◌<◌, length}
use Rattle.sts_code.specs.Program.{Program, routine, instr_at}
use Rattle.sts_rules.specs.TypeState.{TypeState, heads}
use Rattle.sts_rules.specs.Around.{around}
use Rattle.sts_rules.specs.Edges.{follows, typing}
use Rattle.sts_rules.specs.Fits.{Fits}
use Rattle.sts_rules.specs.Flow.{Reaches, Leads, TurnKeeps}
use Rattle.sts_rules.specs.Refusal.{size}

-- The promise for a typestate s that is reached at pc. pc is the place of an instruction, and no
-- other typestate is reached there. No cause holds. The open loops are those around the place. Each
-- typestate that follows is reached too. A loop's turn ends in the typestate in which it began.
pub record IsPromised (p : Program) (f pc : ℕ) (s : TypeState) : Type 0 where
  pub within : pc < size p f
  pub alone : (other : TypeState) → Reaches (typing p f) pc other → other ≡ s
  pub fits : Fits p f pc (instr_at (routine p f).code pc) s
  pub loops : heads s.loops ≡ around (routine p f).code pc
  pub leads : (to : ℕ) (x : TypeState)
      → Leads (follows p (routine p f).code pc (instr_at (routine p f).code pc) s) to x
      → Reaches (typing p f) to x
  pub turns : TurnKeeps (typing p f) pc s

-- in each function of the program
abbrev pub TypingPromises : Program → Type 0
TypingPromises p =
    (f pc : ℕ) (s : TypeState) → f < length p.routines → Reaches (typing p f) pc s
    → IsPromised p f pc s
