use Rattle.std.proofs.Common.{take}
use Rattle.sts_budget.specs.Change.{depth_of}
use Rattle.sts_budget.specs.Ready.{names_in}
use Rattle.sts_budget.specs.Table.{IsSent}
use Rattle.sts_budget.proofs.pass.send.Given as goal

-- the rows of the first places are raised
abbrev pub invariant-loop-i : goal.invariant-loop-i
invariant-loop-i g l = IsSent l.values (λ pc. depth_of l.pass.resource (names_in l.pass.layout.now pc)) l.pass.most (take l.i l.places) l.initial.best.items l.best.items
