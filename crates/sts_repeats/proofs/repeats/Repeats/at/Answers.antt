use Rattle.std.proofs.Common.{◌≡◌, Some, sym, ◌∙◌, ap, rules}
use Rattle.std.specs.Prelude.{slice_get}
use Rattle.std.proofs.lemmas.Option.{get_or_from_slice_get}
use Rattle.sts_repeats.specs.Spread.{spread}
use Rattle.sts_repeats.proofs.RunLemmas.{get_in}
use Rattle.sts_repeats.proofs.repeats.Repeats.at.Goals as goal

pub returns : goal.returns
returns g c =
    let runs = c.as_slice-runs.result.now in
    let there = c.place_of-i.ensures in
    let i = c.place_of-i.result.0 in
    let whole : c.args.self.now ≡ spread runs = search rules in
    ap (λ xs. slice_get xs c.args.at) whole
    ∙ get_in runs c.args.at i c.place_of-i.result.1 there.run there.there there.few there.sum
    ∙ ap (λ r. Some r.value) (sym (get_or_from_slice_get runs i there.run c.index-runs-i.result there.there))
