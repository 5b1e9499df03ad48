use Rattle.std.proofs.Common.{◌≡◌, ◌<◌, ◌∙◌, sym, ap, length, arith, slice_index_or}
use Rattle.std.proofs.lemmas.List.{get_or_default}
use Rattle.sts_model.specs.declared.record.Scope.{Scope}
use Rattle.sts_model.specs.Effect.{told}
use Rattle.sts_world.specs.Scopes.{shown, no_record}
use Rattle.sts_world.proofs.Scoping.{shown_at, shown_set}
use Rattle.sts_world.proofs.records.Records.tell.Goals as goal

pub returns-in_ok-push-clause-ok : goal.returns-in_ok-push-clause-ok
returns-in_ok-push-clause-ok c =
    let bound : c.args.s < length c.self.inside.scopes.items = omega (arith, c.self.inside.scopes.ok) in
    let was = sym (shown_at c.self.inside.chains c.self.inside.scopes.items c.args.s bound) in
    let here : c.index_mut.result.now ≡ slice_index_or c.self.inside.scopes.items c.args.s no_record =
    c.index_mut.ensures.value ∙ get_or_default c.self.inside.scopes.items c.args.s _ no_record bound in
    rw (← c.self.view_is, c.in_ok-push.ensures.ok) (shown_set c.self.inside.chains c.self.inside.tasks.items c.self.inside.scopes.items
    c.args.s _ _ (ap (λ (x : Scope). told x c.args.t c.args.end) (ap (shown c.self.inside.chains) here ∙ was)))
