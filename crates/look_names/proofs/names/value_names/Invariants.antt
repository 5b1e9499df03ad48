use Rattle.std.proofs.Common.{◌≡◌, ◌≤◌, drop, length, map}
use Rattle.std.specs.Prelude.{ℤ, option_map}
use Rattle.std.specs.BTreeMap.{get}
use Rattle.std.specs.Ordering.{int_cmp}
use Rattle.look_names.specs.Names.{value_among}
use Rattle.look_names.proofs.names.value_names.Given as goal

-- the names that the last lines give
abbrev pub invariant-loop-left : goal.invariant-loop-left
invariant-loop-left l = record {
  found : (v : ℤ) → option_map (λ s. s.now) (get int_cmp l.names v) ≡ value_among (map (λ x. x.now) (drop l.left l.text_lines)) v;
  inside : l.left ≤ length l.text_lines;
}

abbrev pub decreases-loop-left : goal.decreases-loop-left
decreases-loop-left l = l.left
