use Rattle.std.proofs.Common.{◌≡◌, subst}
use Rattle.std.specs.Prelude.{IfOk, option_map}
use Rattle.std.specs.String.{string_bytes}
use Rattle.sts_remarks.specs.Idle as def
use Rattle.sts_remarks.proofs.idle.first_idle.Goals as goal

pub returns : goal.returns
returns c =
    subst (λ s. IfOk c.first_idle_after.result
    (λ r. option_map string_bytes r ≡ def.first_idle c.args.unit.now c.args.program.now s 1 c.args.events.now)) c.in_ok-position.ensures
    c.first_idle_after.ensures
