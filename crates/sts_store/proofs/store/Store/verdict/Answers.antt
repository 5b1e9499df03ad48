use Rattle.std.proofs.Common.{sym, ◌∙◌, ap}
use Rattle.sts_model.specs.Told.{result_told}
use Rattle.sts_model.specs.Live.{LiveScope}
use Rattle.laws_live.specs.Reading.{live_count}
use Rattle.sts_store.proofs.ViewingLemmas.{words, scope_there}
use Rattle.sts_store.specs.contracts.store.Store.{the_view}
use Rattle.sts_store.specs.Parts.{live_of, beside}
use Rattle.sts_store.proofs.Seeing.{scope_stands, scope_is_some}
use Rattle.sts_store.proofs.store.Store.verdict.Goals as goal

pub result-requires : goal.result-requires
result-requires c = scope_is_some (the_view c.self.inside) c.args.s (rw (← c.self.view_is) at c.requires)

pub returns : goal.returns
returns c =
    let m = the_view c.self.inside in
    let p = scope_stands m c.args.s (rw (← c.self.view_is) at c.requires) in
    rw (← c.self.view_is)
    (c.result.ensures p.0 p.1
    ∙ ap (result_told p.0.tally.joiner p.0.tally.told) (sym (words.count_is (beside m) m.tree c.args.s))
    ∙ sym (ap (λ (x : LiveScope). result_told x.joiner x.told (live_count (live_of m) c.args.s)) (scope_there (beside m) m.tree c.args.s p.0 p.1)))
