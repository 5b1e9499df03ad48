use Rattle.std.proofs.Common.{◌≡◌, sym, ◌∙◌, ap}
use Rattle.std.proofs.lemmas.Option.{same_Some}
use Rattle.sts_store.specs.contracts.store.Store.{the_view}
use Rattle.sts_store.specs.declared.running.Running.{Running}
use Rattle.sts_store.proofs.Views.{same_frame}
use Rattle.sts_store.proofs.Writing.{living, has_frame}
use Rattle.sts_store.proofs.store.Store.frame.Goals as goal

pub record-running-requires : goal.record-running-requires
record-running-requires c = has_frame (living (the_view c.self.inside) c.args.self.now c.self.invariant c.self.view_is c.args.t c.requires)

pub returns : goal.returns
returns c =
    let m = the_view c.self.inside in
    let l = living m c.args.self.now c.self.invariant c.self.view_is c.args.t c.requires in
    let now : c.record-running.result.now ≡ l.run = same_Some _ _ (sym c.record-running.ensures ∙ l.runs) in
    rw (← c.self.view_is) (ap (λ (r : Running). r.frame) now ∙ sym (same_frame m c.args.t l.run l l.runs))
