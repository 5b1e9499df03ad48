-- Lines that are appended one after the other.
use Rattle.std.proofs.Common.{◌≡◌, ◌++◌, ℕ, List, Result, ap, append_assoc, ◌∙◌}
use Rattle.std.specs.Prelude.{OnOk}
use Rattle.std.proofs.lemmas.Result.{on_ok_weaker}

pub lines_then : {T E : Type 0} (r : Result T E) (old mid new a b : List ℕ) → mid ≡ old ++ a → OnOk r (new ≡ mid ++ b) → OnOk r (new ≡ old ++ (a ++ b))
lines_then r old mid new a b first h =
    on_ok_weaker {P = new ≡ mid ++ b} {Q = new ≡ old ++ (a ++ b)} r (λ e. e ∙ ap (λ (xs : List ℕ). xs ++ b) first ∙ append_assoc old a b) h
