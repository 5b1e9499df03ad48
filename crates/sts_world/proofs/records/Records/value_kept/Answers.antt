use Rattle.std.proofs.Common.{ap, sym, List}
use Rattle.sts_model.specs.declared.record.Bound.{Bound}
use Rattle.sts_model.specs.Environment.{read}
use Rattle.sts_world.proofs.Scoping.{kept_environment}
use Rattle.sts_world.proofs.records.Records.value_kept.Goals as goal

pub returns : goal.returns
returns c =
    rw (← c.self.view_is, c.read.ensures, c.front_of.ensures, c.deref.ensures.value)
    (ap (λ (e : List Bound). read e c.args.k) (sym (kept_environment c.self.inside.chains c.self.inside.tasks.items c.self.inside.scopes.items c.args.scope)))
