use Rattle.std.proofs.Common.{sym, ◌∙◌, ap}
use Rattle.laws_live.specs.Reading.{live_any_lives}
use Rattle.sts_store.proofs.ViewingLemmas.{words}
use Rattle.sts_store.specs.contracts.store.Store.{the_view}
use Rattle.sts_store.specs.Parts.{live_of, beside}
use Rattle.sts_store.proofs.store.Store.any_lives.Goals as goal

pub returns : goal.returns
returns c =
    let m = the_view c.self.inside in
    c.any_lives.ensures ∙ sym (words.any_is (beside m) m.tree c.args.s) ∙ ap (λ n. live_any_lives (live_of n) c.args.s) c.self.view_is
