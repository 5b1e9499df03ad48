use Rattle.std.proofs.Common.{◌≡◌, ◌≢◌, None, Some, false, refl, sym, ◌∙◌, ap}
use Rattle.sts_model.specs.Live.{LiveScope}
use Rattle.sts_model.specs.Waiting.{is_closing}
use Rattle.sts_model.specs.declared.event.Phase.{Phase}
use Rattle.sts_model.specs.declared.event.Phase.TheVariants.{Opened, Attempted, Joined, Closing, Closed}
use Rattle.laws_live.specs.Reading.{live_scope_at}
use Rattle.sts_store.specs.Parts.{live_of}
use Rattle.sts_store.specs.contracts.store.Store.{the_view}
use Rattle.sts_store.proofs.Seeing.{scope_found}
use Rattle.sts_store.proofs.store.Store.closing.Goals as goal

pub returns-in-None : goal.returns-in-None
returns-in-None c =
    sym (ap (λ (x : LiveScope). is_closing x.phase) (scope_found (the_view c.self.inside) c.args.s None c.in-None.ensures))
    ∙ ap (λ m. is_closing (live_scope_at (live_of m) c.args.s).phase) c.self.view_is

pub returns-in-Closing : goal.returns-in-Closing
returns-in-Closing c =
    sym (ap is_closing c.in-Closing.is)
    ∙ sym (ap (λ (x : LiveScope). is_closing x.phase) (scope_found (the_view c.self.inside) c.args.s (Some c.in-Some.scope.now) c.in-Some.ensures))
    ∙ ap (λ m. is_closing (live_scope_at (live_of m) c.args.s).phase) c.self.view_is

not_closing : (p : Phase) → p ≢ Closing → false ≡ is_closing p
not_closing Opened other = refl
not_closing Attempted other = refl
not_closing Joined other = refl
not_closing Closing other = absurd (other refl)
not_closing Closed other = refl

pub returns-in_default : goal.returns-in_default
returns-in_default c =
    not_closing c.in-Some.scope.now.phase c.in_default.not-Closing
    ∙ sym (ap (λ (x : LiveScope). is_closing x.phase) (scope_found (the_view c.self.inside) c.args.s (Some c.in-Some.scope.now) c.in-Some.ensures))
    ∙ ap (λ m. is_closing (live_scope_at (live_of m) c.args.s).phase) c.self.view_is
