-- What is shown of a file's bytes, or that they could not be read.
use Rattle.std.proofs.Common.{◌≡◌, ℕ, List, Option, Result, refl, sym, subst}
use Rattle.std.specs.Prelude.{IfOk}
use Rattle.std.proofs.lemmas.Result.{IfOk-weaker}
use Rattle.sts_output.specs.Output.{Output, failure_output}
use Rattle.sts_output.specs.Taking.{IsTakenOf}
use Rattle.sts_output.specs.declared.taking.TakeError.{TakeError}
use Rattle.look.specs.Ending.{IsOf, shown, failed}

-- the stream gets what is shown of the bytes that were taken
pub passed : {E : Type 0} (most : ℕ) (Shows : List ℕ → Output → Type 0) (file : Option (List ℕ)) (taken seen : List ℕ) (Wrote : ℕ → Output → Type 0) (r : Result ℕ E) → IsTakenOf file most taken → seen ≡ taken
    → IfOk r (λ s. (o : Output) × Shows seen o × Wrote s o) → IfOk r (λ s. (o : Output) × IsOf most Shows file o × Wrote s o)
passed most Shows file taken seen Wrote r known same told =
    let seen_known = subst (λ xs. IsTakenOf file most xs) (sym same) known in
    IfOk-weaker r _ _ (λ s h. (h.0, shown seen seen_known h.1, h.2)) told

-- the stream gets that the file failed
pub unread : {E : Type 0} (most : ℕ) (Shows : List ℕ → Output → Type 0) (file : Option (List ℕ)) (Wrote : ℕ → Output → Type 0) (r : Result ℕ E)
    → IfOk r (λ s. (e : TakeError) × Wrote s (failure_output e)) → IfOk r (λ s. (o : Output) × IsOf most Shows file o × Wrote s o)
unread most Shows file Wrote r told = IfOk-weaker r _ _ (λ s h. (failure_output h.0, failed h.0 refl, h.1)) told
