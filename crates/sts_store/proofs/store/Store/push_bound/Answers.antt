use Rattle.std.proofs.Common.{ap, ◌∙◌, pos, rules, w64}
use mir.Val.{SFits}
use Rattle.std.specs.Prelude.{unwrap_or}
use Rattle.std.proofs.lemmas.Int.{to_z-of_z}
use Rattle.sts_store.proofs.Writing.{went_on}
use Rattle.sts_store.proofs.store.Store.push_bound.Goals as goal

pub returns-clause-live : goal.returns-clause-live
returns-clause-live c p =
    let now = c.args.self.now in
    let fits : SFits w64 c.unwrap_or-value.result = search rules in
    let value = to_z-of_z w64 c.unwrap_or-value.result fits ∙ c.unwrap_or-value.ensures ∙ ap (λ o. unwrap_or o (pos 0)) c.read.ensures in
    went_on now _ c.args.t 0 c.frame.result.now _ _ c.goes_with.ensures.live c.frame.ensures value
