use Rattle.std.proofs.Common.{◌≡◌, ◌≤◌, length}
use Rattle.sts_world.specs.Chains.{chain, bindings_of}
use Rattle.sts_world.proofs.chains.BindingChains.same_bindings.Given as goal

-- if the rests are the same, so are the whole ones
abbrev pub invariant-loop-at : goal.invariant-loop-at
invariant-loop-at l = record {
  within : l.younger ≤ length l.self-inside.links.items;
  within_there : l.younger_there ≤ length l.other-inside.links.items;
  rest : chain l.self-inside.links.items l.younger l.at ≡ chain l.other-inside.links.items l.younger_there l.at_there
      → bindings_of l.self-inside.links.items l.fn.front ≡ bindings_of l.other-inside.links.items l.fn.front_there;
}

abbrev pub decreases-loop-at : goal.decreases-loop-at
decreases-loop-at l = l.younger
