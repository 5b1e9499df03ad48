use Rattle.std.proofs.Common.{map, ap, subst, sym}
use Rattle.std.proofs.KnownBytes.{Keeps-refl}
use Rattle.std.proofs.lemmas.Result.{IfOk-weaker}
use Rattle.sts_output.specs.Output.{Output}
use Rattle.look_args.specs.Asked.{Refuses}
use Rattle.look.specs.Ending as def
use Rattle.look.proofs.program.run.Goals as goal

pub returns-in-None : goal.returns-in-None
returns-in-None g c =
    IfOk-weaker c.on_line.result _ _
    (λ s h. def.shown c.in-Ok.asked h.0 c.in-Ok.ensures.asked (sym c.in-None.ensures) h.1 (record { written = h.2; kept = Keeps-refl _ }))
    c.on_line.ensures

pub returns-in-Some : goal.returns-in-Some
returns-in-Some g c =
    IfOk-weaker c.on_piped.result _ _
    (λ s h. def.piped c.in-Ok.asked c.in-Some.piped c.in-Ok.ensures.asked (sym c.in-Some.ensures) h)
    c.on_piped.ensures

pub returns-in-Err-Help : goal.returns-in-Err-Help
returns-in-Err-Help g c =
    let words = map (λ w. w.now) c.args.words.now in
    let asks = subst (λ e. Refuses words e) c.in-Err-Help.field-0-is c.in-Err-Help.ensures.refused in
    IfOk-weaker c.written.result _ _
    (λ s h. def.helped h.0 asks (ap (λ (o : Output). o.status) h.1) (record { written = h.2; kept = Keeps-refl _ }))
    c.written.ensures

pub returns-in-Err-Usage : goal.returns-in-Err-Usage
returns-in-Err-Usage g c =
    let words = map (λ w. w.now) c.args.words.now in
    let mistaken = subst (λ e. Refuses words e) c.in-Err-Usage.field-0-is c.in-Err-Usage.ensures.refused in
    IfOk-weaker c.written-in-Err-Usage.result _ _
    (λ s h. def.mistaken h.0 mistaken (ap (λ (o : Output). o.status) h.1) (record { told = h.2; kept = Keeps-refl _ }))
    c.written-in-Err-Usage.ensures
