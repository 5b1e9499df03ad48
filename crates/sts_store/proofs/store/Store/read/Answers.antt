use Rattle.std.proofs.Common.{◌≡◌, sym, ◌∙◌, ap, subst}
use Rattle.std.specs.Prelude.{option_map}
use Rattle.std.proofs.lemmas.Option.{same_Some}
use Rattle.sts_env.specs.Environments.{IsWhole, list_of}
use Rattle.sts_tree.proofs.HoldingLemmas.{map_at}
use Rattle.sts_model.specs.Environment as model
use Rattle.sts_model.specs.Live.{Alive}
use Rattle.sts_store.specs.contracts.store.Store.{the_view}
use Rattle.sts_store.specs.declared.running.Running.{Running}
use Rattle.sts_store.specs.Sharing.{holder_of}
use Rattle.sts_store.proofs.Writing.{living, has_frame}
use Rattle.sts_store.proofs.store.Store.read.Goals as goal

pub record-running-requires : goal.record-running-requires
record-running-requires c = has_frame (living (the_view c.self.inside) c.args.self.now c.self.invariant c.self.view_is c.args.t c.requires)

pub read-requires : goal.read-requires
read-requires c =
    let l = living (the_view c.self.inside) c.args.self.now c.self.invariant c.self.view_is c.args.t c.requires in
    let now : c.record-running.result.now ≡ l.run = same_Some _ _ (sym c.record-running.ensures ∙ l.runs) in
    let whole = c.self.invariant.shared.shares.whole c.args.t (holder_of l.run)
    (map_at holder_of c.self.inside.frames.slots c.args.t ∙ ap (option_map holder_of) l.runs) in
    record { whole = subst (λ (r : Running). IsWhole c.self.inside.chains r.env) (sym now) whole }

pub returns : goal.returns
returns c =
    let l = living (the_view c.self.inside) c.args.self.now c.self.invariant c.self.view_is c.args.t c.requires in
    let now : c.record-running.result.now ≡ l.run = same_Some _ _ (sym c.record-running.ensures ∙ l.runs) in
    rw (← c.self.view_is) (c.read.ensures ∙ ap (λ (r : Running). model.read (list_of c.self.inside.chains r.env) c.args.key) now ∙ ap
    (λ (a : Alive). model.read a.environment c.args.key) (sym l.at))
