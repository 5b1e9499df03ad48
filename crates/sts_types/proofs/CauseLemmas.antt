-- Whether a cause was found.
use Rattle.std.proofs.Common.{◌≡◌, ℕ, zero, suc, Bool, false, find, List, [], ◌∷◌, Option, Some, None, IfSome, Ok, refl, slice_get}
use Rattle.sts_code.proofs.CheckedLemmas.{no_test}
use Rattle.sts_rules.specs.declared.typing.Cause.{Cause}
use Rattle.sts_rules.specs.Edges.{or_cause}
use Rattle.sts_rules.specs.TypeState.{TypeState}

-- if none is found, each test says no
pub none_found : (test : Cause → Bool) (cs : List Cause) → find test cs ≡ None → (n : ℕ) → IfSome (slice_get cs n) (λ c. test c ≡ false)
none_found test [] e n = tt
none_found test (c ∷ cs) e zero = (no_test (test c) c (find test cs) e).0
none_found test (c ∷ cs) e (suc n) = none_found test cs (no_test (test c) c (find test cs) e).1 n

pub or_cause_ok : (o : Option Cause) (es out : List (ℕ × TypeState)) → or_cause o es ≡ Ok out → (o ≡ None) × (es ≡ out)
or_cause_ok None es out e = (refl, cc)
or_cause_ok (Some c) es out e = cc
