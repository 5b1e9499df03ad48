-- The facts of a function that the passes use (this project's own).
use Rattle.std.specs.Prelude.{◌≡◌, ℕ, ◌<◌, ◌≤◌, List, [], ◌∷◌, length, get_or, unwrap_or, Option}
use Rattle.std.specs.Prelude.{Some, None}
use Rattle.sts_code.specs.declared.instr.Instr.{Instr}
use Rattle.sts_code.specs.declared.limits.TheConstants.{MAX_ENTRIES, MAX_INSTRUCTIONS}
use Rattle.sts_code.specs.declared.instr.Instr.TheVariants.{Times}
use Rattle.sts_rules.specs.Around.{around}
use Rattle.sts_code.specs.Program.{instr_at}
use Rattle.sts_rules.specs.declared.budget.Budgets.{Budgets}
use Rattle.sts_rules.specs.Budget.{skeleton}
use Rattle.sts_budget.specs.declared.change.Resource.{Resource}
use Rattle.sts_budget.specs.declared.layout.Layout.{Layout}
use Rattle.sts_budget.specs.Change.{ForksEarlier}
use Rattle.sts_budget.specs.Flowing.{flows}
use Rattle.sts_budget.specs.Known.{KnowsNames}
use Rattle.sts_budget.specs.Layout.{EntryNames}
use Rattle.sts_budget.specs.Structured.{IsStructured, Led}
use Rattle.sts_budget.specs.Sums.{Flows}
use Rattle.sts_budget.specs.TypedNames.{names}
use Rattle.sts_types.specs.Arrivals.{none}

-- the names of the open entries at a place
abbrev pub names_in : Layout → ℕ → EntryNames
names_in l pc = names (get_or l.typing.now.states pc none).entries

-- the `times` of the innermost loop around a place
abbrev pub head_in : Layout → ℕ → ℕ
head_in l pc = unwrap_or (get_or l.typing.now.loops.heads pc None) 0

-- the place where the loop of a `times` ends
abbrev pub end_in : Layout → ℕ → ℕ
end_in l pc = unwrap_or (get_or l.typing.now.loops.ends pc None) 0

abbrev pub first_of : List ℕ → Option ℕ
first_of [] = None
first_of (x ∷ xs) = Some x

-- how the sums of a resource flow
abbrev pub flows_in : Resource → List Budgets → List Instr → Layout → Flows
flows_in k earlier code l = flows k earlier code (names_in l)

-- the code is structured, and the layout fits it
pub record IsLaidFor (earlier : List Budgets) (code : List Instr) (l : Layout) : Type 0 where
  pub good : IsStructured (skeleton earlier code) (around code)
  pub known : KnowsNames code (skeleton earlier code) (around code) (names_in l)
  pub led : (pc : ℕ) → 0 < pc → pc < length code → Led (skeleton earlier code) pc
  pub heads : (pc : ℕ) → pc < length code
      → get_or l.typing.now.loops.heads pc None ≡ first_of (around code pc)
  pub ends : (h n : ℕ) → instr_at code h ≡ Times n → end_in l h ≡ (skeleton earlier code).mate h
  pub heads_long : length l.typing.now.loops.heads ≡ length code
  pub ends_long : length l.typing.now.loops.ends ≡ length code
  pub states_long : length l.typing.now.states ≡ length code
  pub forks : (pc : ℕ) → ForksEarlier (length earlier) (instr_at code pc)
  pub turns : (pc n : ℕ) → instr_at code pc ≡ Times n → n < 65536
  pub short : length code ≤ MAX_INSTRUCTIONS
  pub deep : (pc : ℕ) → length (names_in l pc) ≤ l.deepest
  pub few : l.deepest ≤ MAX_ENTRIES
