use Rattle.std.proofs.Common.{take}
use Rattle.sts_budget.specs.declared.change.Resource.{Resource}
use Rattle.sts_budget.specs.Change.{depth_of}
use Rattle.sts_budget.specs.Ready.{names_in}
use Rattle.sts_budget.specs.Table.{IsSent}
use Rattle.sts_budget.specs.Together.{rows_of, sums_of, most}
use Rattle.sts_budget.proofs.together.Tables.send.Given as goal

-- the rows of the first places are raised
abbrev pub invariant-loop-i : goal.invariant-loop-i
invariant-loop-i g l = (k : Resource) → IsSent (sums_of l.values k) (λ pc. depth_of k (names_in l.layout pc)) (most k) (take l.i l.places) (rows_of l.initial.self k) (rows_of l.self k)
