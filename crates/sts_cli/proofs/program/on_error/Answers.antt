use Rattle.std.proofs.Common.{ap, subst}
use Rattle.std.proofs.KnownBytes.{Keeps-refl}
use Rattle.std.proofs.lemmas.Result.{IfOk-weaker}
use Rattle.sts_args.specs.Refused.{Refuses}
use Rattle.sts_cli.specs.Ending as def
use Rattle.sts_output.specs.Output.{Output}
use Rattle.sts_cli.proofs.program.on_error.Goals as goal

pub returns-in-Memory : goal.returns-in-Memory
returns-in-Memory g c = λ words files same input refused.
    IfOk-weaker c.failed.result _ _ (λ s h. def.failed (record { written = h; kept = Keeps-refl _ })) c.failed.ensures

pub returns-in-Help : goal.returns-in-Help
returns-in-Help g c = λ words files same input refused.
    let asks = subst (λ e. Refuses words e) c.in-Help.is refused in
    IfOk-weaker c.written.result _ _
    (λ s h. def.helped h.0 asks (ap (λ (o : Output). o.status) h.1) (record { told = h.2; kept = Keeps-refl _ }))
    c.written.ensures

pub returns-in-Usage : goal.returns-in-Usage
returns-in-Usage g c = λ words files same input refused.
    let mistaken = subst (λ e. Refuses words e) c.in-Usage.is refused in
    IfOk-weaker c.written-in-Usage.result _ _
    (λ s h. def.mistaken h.0 mistaken (ap (λ (o : Output). o.status) h.1) (record { told = h.2; kept = Keeps-refl _ }))
    c.written-in-Usage.ensures
