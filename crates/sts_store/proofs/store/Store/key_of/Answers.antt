use Rattle.std.proofs.Common.{ap, ◌∙◌}
use Rattle.sts_records.specs.Holes.{key_at}
use Rattle.sts_store.specs.contracts.store.Store.{the_view}
use Rattle.sts_store.specs.Parts.{live_of, unseen_of}
use Rattle.sts_store.proofs.Seeing.{task_key}
use Rattle.sts_store.proofs.store.Store.key_of.Goals as goal

pub returns : goal.returns
returns c =
    c.key_of.ensures ∙ task_key (the_view c.self.inside) c.args.t
    ∙ ap (λ m. key_at (live_of m).tasks (unseen_of m).task_keys c.args.t) c.self.view_is
