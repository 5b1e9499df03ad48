use Rattle.std.proofs.Common.{◌≡◌, ap, ◌∙◌, rules, w64}
use mir.Val.{SFits, to_z, of_z}
use Rattle.std.specs.Prelude.{unwrap_or}
use Rattle.std.proofs.lemmas.Int.{to_z-of_z}
use Rattle.sts_model.specs.Local.{operand}
use Rattle.laws_live.specs.Effect.{live_read}
use Rattle.sts_store.specs.Parts.{live_of}
use Rattle.sts_store.proofs.Writing.{went_on}
use Rattle.sts_store.proofs.store.Store.or_else.Goals as goal

pub returns-clause-live : goal.returns-clause-live
returns-clause-live c p =
    let now = c.args.self.now in
    let fits : SFits w64 c.unwrap_or-value.result = search rules in
    let top : SFits w64 c.operand-top.result = search rules in
    let value : to_z w64 (of_z w64 c.unwrap_or-value.result) ≡ unwrap_or c.read.result (to_z w64 (of_z w64 c.operand-top.result)) =
    to_z-of_z w64 c.unwrap_or-value.result fits ∙ c.unwrap_or-value.ensures in
    let looked_up =
    value
    ∙ ap (λ o. unwrap_or o (to_z w64 (of_z w64 c.operand-top.result))) c.read.ensures
    ∙ ap (λ z. unwrap_or (live_read (live_of now) c.args.t c.args.key) z)
    (to_z-of_z w64 c.operand-top.result top ∙ c.operand-top.ensures ∙ ap (λ f. operand f 0) c.frame-frame.ensures) in
    went_on now _ c.args.t 1 c.frame-frame.result.now _ _ c.goes_with.ensures.live c.frame-frame.ensures looked_up
