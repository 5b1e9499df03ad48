use Rattle.std.proofs.Common.{inl, inr, refl, subst, ◌∙◌, ap}
use Rattle.std.proofs.lemmas.Result.{IfOk-weaker}
use Rattle.std.specs.Prelude.{unwrap_or}
use Rattle.sts_output.specs.Output.{memory_output}
use Rattle.look_shows.specs.Showing as def
use Rattle.look_shows.proofs.showing.show_in_full.Goals as goal

pub returns-in-Ok-Some : goal.returns-in-Ok-Some
returns-in-Ok-Some g c =
    let full = c.as_slice-trace.ensures.value ∙ ap (λ r. unwrap_or r c.args.trace.now) (rw c.in-Ok-Some.field-0-is at c.in-Ok-Some.ensures) in
    IfOk-weaker c.show.result _ _
    (λ s h. (h.0, inl (subst (λ t. def.Shows c.args.showing c.args.text.now t h.0) full h.1), h.2))
    c.show.ensures

pub returns-in-Ok-None : goal.returns-in-Ok-None
returns-in-Ok-None g c =
    let full = ap (λ r. unwrap_or r c.args.trace.now) (rw c.in-Ok-None.field-0-is at c.in-Ok-None.ensures) in
    IfOk-weaker c.show-in-Ok-None.result _ _
    (λ s h. (h.0, inl (subst (λ t. def.Shows c.args.showing c.args.text.now t h.0) full h.1), h.2))
    c.show-in-Ok-None.ensures

pub returns-in-Err : goal.returns-in-Err
returns-in-Err g c = IfOk-weaker c.failed.result _ _ (λ s h. (memory_output, inr refl, h)) c.failed.ensures
