use Rattle.std.proofs.Common.{◌≡◌, [], get_or, refl, ◌∙◌, subst}
use Rattle.sts_budget.specs.Row.{IsRaised}
use Rattle.std.proofs.lemmas.List.{get_or_default}
use Rattle.sts_budget.proofs.pass.raise_row.Goals as goal

pub returns-clause-raised : goal.returns-clause-raised
returns-clause-raised g c = λ t.
    (let old : c.index_mut.result.now ≡ get_or c.args.best.now.items c.args.to [] =
    c.index_mut.ensures.value ∙ get_or_default c.args.best.now.items c.args.to _ [] c.requires.inside in (
      c.raise.new.row,
      (refl, subst (λ x. IsRaised c.args.values.now c.args.low c.args.most x c.raise.new.row) old (c.raise.ensures.raised t)),
    ))
