-- What is said of events.
use Rattle.std.proofs.Common.{◌≡◌, ℕ, List, ◌∷◌, [], true, None, refl}
use Rattle.sts_code.specs.Program.{Program}
use Rattle.sts_model.specs.declared.event.Event.{Event}
use Rattle.sts_model.specs.World.{State, Running, Faulted}
use Rattle.sts_plain.specs.Seen.{is_fault}
use Rattle.sts_remarks.specs.Idle.{first_idle}

-- nothing is said after a fault
pub first_idle-fault : (unit : List ℕ) (p : Program) (s : State) (n : ℕ) (es : List Event) → is_fault s ≡ true → first_idle unit p s n es ≡ None
first_idle-fault unit p s n [] faulted = refl
first_idle-fault unit p (Faulted kind t f pc) n (e ∷ es) faulted = refl
first_idle-fault unit p (Running w) n (e ∷ es) faulted = cc
