use Rattle.std.proofs.Common.{refl, arith, true}
use Rattle.sts_model.specs.declared.record.Scope.{Scope}
use Rattle.sts_world.proofs.Scoping.{shown_changed}
use Rattle.sts_world.proofs.records.Records.set_expired.Goals as goal

pub returns-then-s-len : goal.returns-then-s-len
returns-then-s-len c =
    rw (← c.self.view_is) (shown_changed c.self.inside.chains c.self.inside.tasks.items c.self.inside.scopes.items c.args.s
    c.index_mut.result.now (record c.index_mut.result.now { expired = true }) _ (λ (x : Scope). record x { expired = true })
    (omega (arith, c.self.inside.scopes.ok)) c.index_mut.ensures.value refl)
