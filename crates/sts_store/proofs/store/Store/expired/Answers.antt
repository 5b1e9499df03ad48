use Rattle.std.proofs.Common.{None, Some, sym, ◌∙◌, ap}
use Rattle.sts_model.specs.Live.{LiveScope}
use Rattle.laws_live.specs.Reading.{live_scope_at}
use Rattle.sts_store.specs.Parts.{live_of}
use Rattle.sts_store.specs.contracts.store.Store.{the_view}
use Rattle.sts_store.proofs.Seeing.{scope_found}
use Rattle.sts_store.proofs.store.Store.expired.Goals as goal

pub returns-in-None : goal.returns-in-None
returns-in-None c =
    sym (ap (λ (x : LiveScope). x.expired) (scope_found (the_view c.self.inside) c.args.s None c.in-None.ensures))
    ∙ ap (λ m. (live_scope_at (live_of m) c.args.s).expired) c.self.view_is

pub returns-in-Some : goal.returns-in-Some
returns-in-Some c =
    sym (ap (λ (x : LiveScope). x.expired) (scope_found (the_view c.self.inside) c.args.s (Some c.in-Some.scope.now) c.in-Some.ensures))
    ∙ ap (λ m. (live_scope_at (live_of m) c.args.s).expired) c.self.view_is
