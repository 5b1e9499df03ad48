use Rattle.std.proofs.Common.{Some, None, ap, sym, ◌∙◌}
use Rattle.std.specs.Prelude.{option_copied}
use Rattle.laws_live.specs.Effect.{live_state}
use Rattle.sts_store.specs.Parts.{live_of}
use Rattle.sts_store.specs.contracts.store.Store.{the_view}
use Rattle.sts_store.proofs.Seeing.{state_is}
use Rattle.sts_store.proofs.store.Store.state.Goals as goal

pub returns-in-None : goal.returns-in-None
returns-in-None c =
    sym (state_is (the_view c.self.inside) c.args.t None (sym c.task.ensures.value ∙ ap option_copied c.in-None.is))
    ∙ ap (λ m. live_state (live_of m) c.args.t) c.self.view_is

pub returns-in-Some : goal.returns-in-Some
returns-in-Some c =
    sym (state_is (the_view c.self.inside) c.args.t (Some c.in-Some.task.now) (sym c.task.ensures.value ∙ ap option_copied c.in-Some.is))
    ∙ ap (λ m. live_state (live_of m) c.args.t) c.self.view_is
