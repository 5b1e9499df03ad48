use Rattle.std.proofs.Common.{◌≤◌, ◌<◌, ℕ, length, get_or}
use Rattle.sts_types.specs.Arrivals.{none}
use Rattle.sts_budget.proofs.layout.lay_out.Given as goal

-- the greatest number of open entries so far
abbrev pub invariant-loop-pc : goal.invariant-loop-pc
invariant-loop-pc l = ((k : ℕ) → k < l.pc → length (get_or l.typing.states k none).entries ≤ l.deepest) × (l.deepest ≤ 16)
