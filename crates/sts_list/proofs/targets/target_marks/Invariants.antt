use Rattle.std.proofs.Common.{◌≡◌, length, take, replicate, false}
use Rattle.std.specs.List.{flat_map}
use Rattle.sts_list.specs.Listing.{with_marks}
use Rattle.sts_code.specs.Facts.{targets}
use Rattle.sts_list.proofs.targets.target_marks.Given as goal

abbrev pub invariant-loop-instr : goal.invariant-loop-instr
invariant-loop-instr l = l.marks.items ≡ with_marks (replicate (length l.code) false) (flat_map targets (take l.instr-index l.code))
