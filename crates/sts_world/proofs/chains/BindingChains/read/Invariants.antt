use Rattle.std.proofs.Common.{◌≡◌, ◌≤◌, length}
use Rattle.sts_model.specs.Environment as scoped
use Rattle.sts_world.specs.Chains.{chain, bindings_of}
use Rattle.sts_world.proofs.chains.BindingChains.read.Given as goal

-- the rest has the answer
abbrev pub invariant-loop-at : goal.invariant-loop-at
invariant-loop-at l = record {
  within : l.younger ≤ length l.self-inside.links.items;
  rest : scoped.read (chain l.self-inside.links.items l.younger l.at) l.k ≡ scoped.read (bindings_of l.self-inside.links.items l.fn.front) l.k;
}

abbrev pub decreases-loop-at : goal.decreases-loop-at
decreases-loop-at l = l.younger
