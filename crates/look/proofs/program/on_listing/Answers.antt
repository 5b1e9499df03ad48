use Rattle.std.proofs.Common.{ℕ, Result, refl}
use Rattle.std.specs.Prelude.{IfOk}
use Rattle.std.proofs.lemmas.Result.{IfOk-weaker}
use Rattle.sts_output.specs.Output.{Output, failure_output}
use Rattle.sts_output.specs.declared.taking.TakeError.{TakeError}
use Rattle.look_ends.specs.Listing.{Listing}
use Rattle.look.specs.Ending.{IsWritten, without_file}
use Rattle.look.proofs.Printing.{beside}
use Rattle.look.proofs.program.on_listing.Goals as goal

-- the file of the trace could not be made, or is the file of the text
no_file : {E : Type 0} (l : Listing) (P : Type 0) (Wrote : ℕ → Output → Type 0) (r : Result ℕ E)
    → IfOk r (λ s. (e : TakeError) × Wrote s (failure_output e)) → IfOk r (λ s. (o : Output) × IsWritten l P o × Wrote s o)
no_file l P Wrote r told = IfOk-weaker r _ _ (λ s h. (failure_output h.0, without_file h.0 refl, h.1)) told

pub returns-in-Ok : goal.returns-in-Ok
returns-in-Ok g c =
    IfOk-weaker c.on_kept.result _ _
    (λ s h. (h.0, beside c.args.listing.now _ h.0 (c.in-Ok.ensures.said, c.in-Ok.ensures.file) h.1, h.2)) c.on_kept.ensures

pub returns-in-Err : goal.returns-in-Err
returns-in-Err g c = no_file c.args.listing.now _ _ c.file_failed.result c.file_failed.ensures

pub returns-in-Ok-made : goal.returns-in-Ok-made
returns-in-Ok-made g c =
    IfOk-weaker c.on_kept-in-Ok-made.result _ _
    (λ s h. (h.0, beside c.args.listing.now _ h.0 (c.in-Ok-made.ensures.said, c.in-Ok-made.ensures.file) h.1, h.2)) c.on_kept-in-Ok-made.ensures

pub returns-in-Err-made : goal.returns-in-Err-made
returns-in-Err-made g c = no_file c.args.listing.now _ _ c.file_failed-in-Err-made.result c.file_failed-in-Err-made.ensures
