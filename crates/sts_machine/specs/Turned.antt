-- The answer to an event (this project's own).
use Rattle.std.specs.Prelude.{◌≡◌, ℕ, Bool, true, false, Option, Some, None, if◌then◌else◌}
use Rattle.sts_machine.specs.declared.turned.Turned.{Turned}
use Rattle.sts_machine.specs.declared.turned.Turned.TheVariants.{Stepped, Idle}

-- an event that counts is a step taken
abbrev pub turned : Bool → Turned
turned counts = if counts then Stepped else Idle

-- a task that is picked passes the test; none is picked if and only if none passes
abbrev pub Picks : (ℕ → Bool) → Option ℕ → Type 0
Picks test (Some t) = test t ≡ true
Picks test None = (t : ℕ) → test t ≡ false
