use Rattle.std.proofs.Common.{◌≡◌, List, ap, ◌∙◌, subst}
use Rattle.sts_rules.specs.declared.typing.TypedEntry.{TypedEntry}
use Rattle.sts_budget.specs.Change.{depth_of}
use Rattle.sts_budget.specs.Ready.{names_in}
use Rattle.sts_budget.specs.Row.{IsOver}
use Rattle.sts_budget.specs.Table.{IsRaisedAt}
use Rattle.sts_budget.specs.TypedNames.{names}
use Rattle.sts_budget.proofs.pass.raise_at.Goals as goal

pub returns-clause-raised : goal.returns-clause-raised
returns-clause-raised g c = λ t.
    (let low_is : c.depth_of-low.result ≡ depth_of c.args.pass.now.resource (names_in c.args.pass.now.layout.now c.args.to) =
    c.depth_of-low.ensures.value ∙ ap (λ (es : List TypedEntry). depth_of c.args.pass.now.resource (names es)) c.entries.ensures in
    subst (λ n. IsRaisedAt c.args.values.now n c.args.pass.now.most c.args.to c.args.best.now.items c.raise_row.new.best.items) low_is
    (c.raise_row.ensures.raised t))

pub returns-clause-over : goal.returns-clause-over
returns-clause-over g c = λ t.
    (let low_is : c.depth_of-low.result ≡ depth_of c.args.pass.now.resource (names_in c.args.pass.now.layout.now c.args.to) =
    c.depth_of-low.ensures.value ∙ ap (λ (es : List TypedEntry). depth_of c.args.pass.now.resource (names es)) c.entries.ensures in
    subst (λ n. IsOver c.args.values.now n c.args.pass.now.most) low_is (c.raise_row.ensures.over t))
