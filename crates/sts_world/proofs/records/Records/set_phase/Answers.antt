use Rattle.std.proofs.Common.{refl, arith}
use Rattle.sts_model.specs.declared.record.Scope.{Scope}
use Rattle.sts_world.proofs.Scoping.{shown_changed}
use Rattle.sts_world.proofs.records.Records.set_phase.Goals as goal

pub returns-then-s-len : goal.returns-then-s-len
returns-then-s-len c =
    rw (← c.self.view_is) (shown_changed c.self.inside.chains c.self.inside.tasks.items c.self.inside.scopes.items c.args.s
    c.index_mut.result.now (record c.index_mut.result.now { phase = c.args.phase }) _ (λ (x : Scope). record x { phase = c.args.phase })
    (omega (arith, c.self.inside.scopes.ok)) c.index_mut.ensures.value refl)
