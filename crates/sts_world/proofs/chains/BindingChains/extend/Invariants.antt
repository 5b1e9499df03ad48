use Rattle.std.proofs.Common.{take, reverse, filter_map}
use Rattle.sts_model.specs.Environment as scoped
use Rattle.sts_world.proofs.Chaining.{Extends}
use Rattle.sts_world.proofs.chains.BindingChains.extend.Given as goal

-- the bindings so far, outermost first, are in front
abbrev pub invariant-loop-entry : goal.invariant-loop-entry
invariant-loop-entry l = Extends l.fn.self l.self l.front l.fn.rest (filter_map scoped.bound_of (reverse (take l.entry-index l.entry-items)))
