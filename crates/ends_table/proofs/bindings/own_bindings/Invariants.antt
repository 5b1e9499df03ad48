use Rattle.std.proofs.Common.{◌≡◌, take}
use Rattle.std.specs.Prelude.{filter_map}
use Rattle.sts_model.specs.Environment.{bound_of}
use Rattle.ends_table.proofs.bindings.own_bindings.Given as goal

abbrev pub invariant-loop-place : goal.invariant-loop-place
invariant-loop-place l = l.found ≡ filter_map bound_of (take l.place l.frame.entries)
