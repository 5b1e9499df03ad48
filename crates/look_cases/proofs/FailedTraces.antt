-- The fault that a reading of a trace meets.
use Rattle.std.proofs.Common.{◌≡◌, ◌≢◌, Result, Err, refl}
use Rattle.sts_trace.specs.Reading.{Fails}
use Rattle.sts_trace.specs.declared.error.TraceError.{TraceError}
use Rattle.sts_trace.specs.declared.error.TraceError.TheVariants as trace

-- unless memory ran out, it is the fault of the answer
pub fails_with : {Y : Type 0} → (e : TraceError) (read : Result Y TraceError) → Fails e read → e ≢ trace.Memory → read ≡ Err e
fails_with trace.Memory read h other = absurd (other refl)
fails_with _ read h other = h
