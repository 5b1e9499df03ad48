-- What a search finds, and a walk back from a place (this project's own).
use Rattle.std.specs.Prelude.{◌≡◌, ℕ, ◌+◌, ◌<◌, ◌⊎◌, List, length, get_or, true}
use Rattle.sts_code.specs.declared.instr.Instr.{Instr}
use Rattle.sts_code.specs.Program.{instr_at}
use Rattle.sts_rules.specs.declared.budget.Budgets.{Budgets}
use Rattle.sts_rules.specs.Budget.{skeleton}
use Rattle.sts_rules.specs.ControlPaths.{Loops}
use Rattle.sts_budget.specs.declared.change.Resource.{Resource}
use Rattle.sts_budget.specs.declared.layout.Layout.{Layout}
use Rattle.sts_budget.specs.Change.{own_of, limit_of, depth_of}
use Rattle.sts_budget.specs.Ready.{flows_in, names_in}
use Rattle.look_refusal.specs.declared.heavy.Heavy.{Heavy}
use Rattle.look_refusal.specs.declared.search.Search.{Search}
use Rattle.look_refusal.specs.Adding.{Adds, Steps, share, total}
use Rattle.look_refusal.specs.Heavy.{IsTooHeavy, NoneHeavier}
use Rattle.look_refusal.specs.Search.{ends_for}

-- some control path reaches the place, and its steps add the reported amounts, more than the limit
pub record IsWeighedIn (k : Resource) (earlier : List Budgets) (code : List Instr) (l : Layout)
    (h : Heavy) : Type 0 where
  pub in_code : h.place < length code
  pub loops : Loops
  pub steps : Steps
  pub path : Adds (skeleton earlier code) (flows_in k earlier code l)
      (depth_of k (names_in l h.place)) h.place loops steps
  pub one_each : length h.shares.items ≡ length code
  pub may : ends_for k (instr_at code h.place) ≡ true
  pub shares : (x : ℕ) → get_or h.shares.items x 0 ≡ share steps x
  pub weight : h.weight ≡ own_of k + total steps
  pub over : limit_of k < h.weight

abbrev pub IsWeighed : Search → Heavy → Type 0
IsWeighed s h = IsWeighedIn s.resource s.earlier.now s.code.now s.layout.now h

-- no point has a higher count
pub record IsHeaviest (s : Search) (h : Heavy) : Type 0 where
  pub weighed : IsWeighed s h
  pub most : NoneHeavier s.resource s.earlier.now s.code.now h.weight

-- no count is over the limit, or some count needs more than 128 bits
abbrev pub IsNotTold : Search → Type 0
IsNotTold s =
    NoneHeavier s.resource s.earlier.now s.code.now (limit_of s.resource)
    ⊎ IsTooHeavy s.resource s.earlier.now s.code.now
