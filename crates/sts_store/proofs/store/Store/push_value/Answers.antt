use Rattle.std.proofs.Common.{ap, ◌∙◌, rules, w64}
use Rattle.std.proofs.lemmas.Int.{to_z-of_z}
use Rattle.sts_model.specs.Effect.{named, value_or_zero}
use Rattle.sts_model.specs.Misuse.{slot}
use Rattle.laws_live.specs.Effect.{live_state}
use Rattle.sts_store.specs.Parts.{live_of}
use Rattle.sts_store.proofs.Writing.{went_on}
use Rattle.sts_store.proofs.store.Store.push_value.Goals as goal

pub returns-clause-get : goal.returns-clause-get
returns-clause-get c p =
    let task = c.named.ensures ∙ ap (λ f. named (slot f c.args.handle)) c.frame-frame.ensures in
    let state = c.state-state.ensures ∙ ap (λ u. live_state (live_of c.args.self.now) u) task in
    let value = to_z-of_z w64 c.value_or_zero.result (search rules) ∙ c.value_or_zero.ensures ∙ ap value_or_zero state in
    went_on c.args.self.now _ c.args.t 0 c.frame-frame.result.now _ _ c.goes_with.ensures.live c.frame-frame.ensures value

-- `get` and `except` push the same
pub returns-clause-except : goal.returns-clause-except
returns-clause-except c p = returns-clause-get c p
