use Rattle.std.proofs.Common.{ap, ◌∙◌, unwrap_or}
use Rattle.std.proofs.lemmas.Option.{unwrap_or-slice_get}
use Rattle.sts_model.proofs.stack.Stack.get_or.Goals as goal

pub returns : goal.returns
returns g c =
    c.unwrap_or.ensures
    ∙ ap (λ o. unwrap_or o c.args.default) c.get.ensures
    ∙ unwrap_or-slice_get c.args.self.now c.args.n c.args.default
