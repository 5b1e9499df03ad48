use Rattle.std.proofs.Common.{ap, ◌∙◌, rules, w64}
use mir.Val.{SFits}
use Rattle.std.specs.Prelude.{is_some}
use Rattle.sts_store.proofs.Writing.{went_on, truth_pushed}
use Rattle.sts_store.proofs.store.Store.push_is_bound.Goals as goal

pub returns-clause-live : goal.returns-clause-live
returns-clause-live c p =
    let now = c.args.self.now in
    let fits : SFits w64 c.from.result = search rules in
    let bound = c.is_some-is_bound.ensures ∙ ap (λ o. is_some o) c.read.ensures in
    let value = truth_pushed c.from.result _ _ fits c.from.ensures bound in
    went_on now _ c.args.t 0 c.frame.result.now _ _ c.goes_with.ensures.live c.frame.ensures value
