use Rattle.std.proofs.Common.{rules, ap, refl, ◌∙◌, ◌∷◌, [], reverse}
use Rattle.std.proofs.lemmas.List.{reverse-append}
use Rattle.sts_model.proofs.ListLemmas.{length_reversed}
use Rattle.sts_model.proofs.stack.Stack.push.Goals as goal

pub push-requires : goal.push-requires
push-requires g c =
    (search rules, rw (length_reversed c.self.inside.values.items _ _ c.self.view_is refl) c.requires)

pub returns : goal.returns
returns g c =
    ap reverse c.push.ensures.items
    ∙ reverse-append c.self.inside.values.items (c.args.value ∷ [])
    ∙ ap (λ r. c.args.value ∷ r) c.self.view_is
