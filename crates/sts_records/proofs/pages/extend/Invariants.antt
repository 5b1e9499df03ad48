use Rattle.std.proofs.Common.{◌≡◌, ◌-◌, length, vec_capacity}
use Rattle.sts_records.specs.Pages.{Extends}
use Rattle.sts_records.proofs.pages.extend.Given as goal

abbrev pub invariant-loop-cells : goal.invariant-loop-cells
invariant-loop-cells l =
    Extends l.initial.cells.items l.cells.items × (vec_capacity l.cells ≡ vec_capacity l.initial.cells)

abbrev pub decreases-loop-cells : goal.decreases-loop-cells
decreases-loop-cells l = l.long - length l.cells.items
