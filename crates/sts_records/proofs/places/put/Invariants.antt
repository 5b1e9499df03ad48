use Rattle.std.proofs.Common.{◌≡◌, ◌≤◌, ◌-◌, ℕ, None, length, slice_index_or, vec_capacity}
use Rattle.sts_records.specs.Cells.{AreWhole, slots_of}
use Rattle.sts_records.proofs.places.put.Given as goal

-- no key beyond the cells that were there has a record
abbrev pub invariant-loop-cells : goal.invariant-loop-cells
invariant-loop-cells g l = record {
  same : (k : ℕ) → slice_index_or (slots_of l.cells.items) k None ≡ slice_index_or (slots_of l.fn.cells.items) k None;
  whole : AreWhole l.fn.cells.items → AreWhole l.cells.items;
  capacity : vec_capacity l.cells ≡ vec_capacity l.fn.cells;
  upto : length l.cells.items ≤ l.key;
}

abbrev pub decreases-loop-cells : goal.decreases-loop-cells
decreases-loop-cells g l = l.key - length l.cells.items
