-- The input of a search (this project's own).
use Rattle.std.specs.Prelude.{◌≡◌, ℕ, ◌<◌, ◌≤◌, ◌++◌, Bool, true, false, length}
use Rattle.sts_code.specs.declared.instr.Instr.{Instr}
use Rattle.sts_code.specs.declared.instr.Instr.TheVariants.{Next, Ret, Fail}
use Rattle.sts_code.specs.Facts.{targets}
use Rattle.sts_code.specs.Program.{instr_at}
use Rattle.sts_rules.specs.Around.{next_place}
use Rattle.sts_rules.specs.Budget.{skeleton}
use Rattle.sts_rules.specs.ControlPaths.{Skeleton, Repeats, EndsTurn, Among}
use Rattle.sts_budget.specs.declared.change.Resource.{Resource}
use Rattle.sts_budget.specs.declared.change.Resource.TheVariants.{Steps}
use Rattle.sts_budget.specs.declared.change.SumChange.{SumChange}
use Rattle.sts_budget.specs.Change.{change_of}
use Rattle.sts_budget.specs.Handing.{turns_of}
use Rattle.sts_budget.specs.Ready.{IsLaidFor, flows_in, names_in}
use Rattle.sts_budget.specs.Sums.{Flows}
use Rattle.look_refusal.specs.declared.search.Search.{Search}
use Rattle.look_refusal.specs.declared.search.Spot.{Spot}
use Rattle.look_refusal.specs.declared.search.CostLoop.{CostLoop}

-- the layout is right of the code
abbrev pub IsReady : Search → Type 0
IsReady s = IsLaidFor s.earlier.now s.code.now s.layout.now

-- what control paths see of the code
abbrev pub paths : Search → Skeleton
paths s = skeleton s.earlier.now s.code.now

-- how the sums flow
abbrev pub flow : Search → Flows
flow s = flows_in s.resource s.earlier.now s.code.now s.layout.now

-- how the instruction changes the sums
abbrev pub change_at : Search → ℕ → SumChange
change_at s pc =
    change_of s.resource s.earlier.now (instr_at s.code.now pc) (names_in s.layout.now pc)

-- does it end a loop's turn?
abbrev pub ends_turn : Instr → Bool
ends_turn Next = true
ends_turn i = false

-- the place is one of the code, and the sum there is over no more entries than are open
pub record IsSpot (s : Search) (at : Spot) : Type 0 where
  pub in_code : at.place < length s.code.now
  pub shallow : at.depth ≤ (flow s).depth at.place

-- a loop of the code
pub record IsLoop (s : Search) (l : CostLoop) : Type 0 where
  pub head : l.head < length s.code.now
  pub end : l.end < length s.code.now
  pub opens : (paths s).shape l.head ≡ Repeats l.turns
  pub some : 0 < l.turns
  pub mate : (paths s).mate l.head ≡ l.end
  pub ends : (paths s).shape l.end ≡ EndsTurn

-- a loop opens at the place
abbrev pub OpensLoop : Search → ℕ → Type 0
OpensLoop s pc = (n : ℕ) × ((paths s).shape pc ≡ Repeats n)

-- the instruction leads from one place to another, and opens no loop; the end of a turn leads on
-- from its loop
abbrev pub LeadsOn : Search → ℕ → ℕ → Type 0
LeadsOn s from to =
    (turns_of (instr_at s.code.now from) ≡ 0)
    × Among (targets (instr_at s.code.now from) ++ next_place from (instr_at s.code.now from)) to

-- does it end the path?
abbrev pub ends_path : Instr → Bool
ends_path Ret = true
ends_path Fail = true
ends_path i = false

-- a path that is reported for its steps is a whole one
abbrev pub ends_for : Resource → Instr → Bool
ends_for Steps i = ends_path i
ends_for _ i = true

abbrev pub may_end : Search → ℕ → Bool
may_end s pc = ends_for s.resource (instr_at s.code.now pc)
