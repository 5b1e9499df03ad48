use Rattle.std.proofs.Common.{ap, ◌∙◌}
use Rattle.sts_records.specs.Holes.{key_at}
use Rattle.sts_store.specs.contracts.store.Store.{the_view}
use Rattle.sts_store.specs.Parts.{live_of, unseen_of}
use Rattle.sts_store.proofs.Seeing.{scope_key}
use Rattle.sts_store.proofs.store.Store.scope_key_of.Goals as goal

pub returns : goal.returns
returns c =
    c.scope_key_of.ensures ∙ scope_key (the_view c.self.inside) c.args.s
    ∙ ap (λ m. key_at (live_of m).scopes (unseen_of m).scope_keys c.args.s) c.self.view_is
