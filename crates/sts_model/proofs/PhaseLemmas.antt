-- Phases of a scope.
use Rattle.std.proofs.Common.{◌≡◌, false, not, refl}
use Rattle.sts_model.specs.declared.event.Phase.{Phase}
use Rattle.sts_model.specs.declared.event.Phase.TheVariants.{Closed}
use Rattle.sts_model.specs.Living.{is_closed}
use Rattle.sts_model.specs.Misuse.{is_opened}

pub opened_not_closed : (phase : Phase) → not (is_opened phase) ≡ false → is_closed phase ≡ false
opened_not_closed Closed e = cc
opened_not_closed _ e = refl
