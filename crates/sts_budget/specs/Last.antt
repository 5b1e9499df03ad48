-- The greatest sums of the places so far, with each loop in its last turn (this project's own).
use Rattle.std.specs.Prelude.{◌≡◌, ℕ, ◌<◌, ◌≤◌, ◌⊎◌, List, length, get_or}
use Rattle.sts_code.specs.declared.instr.Instr.{Instr}
use Rattle.sts_code.specs.declared.instr.Instr.TheVariants.{Times}
use Rattle.sts_rules.specs.Around.{around}
use Rattle.sts_code.specs.Program.{instr_at}
use Rattle.sts_rules.specs.declared.budget.Budgets.{Budgets}
use Rattle.sts_rules.specs.Budget.{skeleton}
use Rattle.sts_budget.specs.declared.change.Resource.{Resource}
use Rattle.sts_budget.specs.declared.greatest.Top.{Top}
use Rattle.sts_budget.specs.declared.layout.Layout.{Layout}
use Rattle.sts_budget.specs.declared.pass.Pass.{Pass}
use Rattle.sts_budget.specs.Ready.{flows_in}
use Rattle.sts_budget.specs.Sums.{full, turn_base}
use Rattle.sts_budget.specs.Table.{read}

-- the greatest sum of a place
abbrev pub sum_at : Resource → List Budgets → List Instr → Layout → List (List ℕ) → ℕ → ℕ
sum_at k earlier code l rows pc =
    full (skeleton earlier code) (flows_in k earlier code l) (around code) (read rows) pc

-- the bases are those of the loops that open before pc
pub record HasBases (k : Resource) (earlier : List Budgets) (code : List Instr) (l : Layout)
    (rows : List (List ℕ)) (pc : ℕ) (bases : List ℕ) : Type 0 where
  pub long : length bases ≡ length code
  pub right : (h n : ℕ) → h < pc → instr_at code h ≡ Times n
      → get_or bases h 0 ≡ turn_base (skeleton earlier code) (flows_in k earlier code l)
      (around code) (read rows) h
  pub small : (i : ℕ) → get_or bases i 0 < 1125899906842624

-- top is the greatest sum of the places before pc
pub record IsTop (k : Resource) (earlier : List Budgets) (code : List Instr) (l : Layout)
    (rows : List (List ℕ)) (pc top : ℕ) : Type 0 where
  pub most : (q : ℕ) → q < pc → sum_at k earlier code l rows q ≤ top
  pub attained : (pc ≡ 0) ⊎ ((q : ℕ) × ((q < pc) × (sum_at k earlier code l rows q ≡ top)))
  pub none_yet : pc ≡ 0 → top ≡ 0

-- the bases and the greatest sum are those of the places before pc, and no sum is over the limit
abbrev pub IsTopped : Pass → List (List ℕ) → ℕ → Top → Type 0
IsTopped p rows pc t =
    HasBases p.resource p.earlier.now p.code.now p.layout.now rows pc t.bases.items
    × IsTop p.resource p.earlier.now p.code.now p.layout.now rows pc t.greatest
    × (t.greatest ≤ p.most)
