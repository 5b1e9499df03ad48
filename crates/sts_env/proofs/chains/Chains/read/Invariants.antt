use Rattle.std.proofs.Common.{◌≡◌, ◌-◌}
use Rattle.sts_env.specs.Environments.{list_of, AreWhole, record_at, bindings}
use Rattle.sts_model.specs.Environment as scoped
use Rattle.sts_env.proofs.chains.Chains.read.Given as goal

abbrev pub invariant-loop : goal.invariant-loop
invariant-loop l = AreWhole (record_at l.self) (l.end - l.counter) l.at × (scoped.read (bindings (record_at l.self) (l.end - l.counter) l.at) l.key ≡ scoped.read (list_of l.self l.fn.env) l.key)
