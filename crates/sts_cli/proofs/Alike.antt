-- Modes `plain` and `replay` print the same for an accepted program.
use Rattle.std.proofs.Common.{◌≡◌, ◌↔◌, List, Result, Ok, Err, sym, subst}
use Rattle.sts_code.specs.Program.{Program}
use Rattle.sts_model.specs.declared.event.Event.{Event}
use Rattle.sts_rules.specs.Refusal.{IsAccepted, IsOneVerdict}
use Rattle.sts_trace.specs.Reading.{trace_read}
use Rattle.sts_trace.specs.declared.error.TraceError.{TraceError}
use Rattle.sts_output.specs.Output.{Output, IsReplay, PrintsAlike, ReplayShows, TracedShows, accepted, plain_output, refused, run_output, traced_output}

-- an accepted program isn't refused
replayed : (p : Program) (events : List Event) (o : Output) → IsAccepted p → IsOneVerdict p → IsReplay p events o → o ≡ run_output p events
replayed p events o is one (accepted also printed) = printed
replayed p events o is one (refused r) = absurd (one.apart r.function r.place r.cause is r.refusal)

traced : (p : Program) (read : Result (List Event) TraceError) (o : Output) → IsAccepted p → IsOneVerdict p
    → TracedShows p read o ↔ (o ≡ traced_output p read)
traced p (Ok events) o is one = (replayed p events o is one, accepted is)
traced p (Err e) o is one = (λ h. h, λ h. h)

pub alike : (p : Program) → IsAccepted p → IsOneVerdict p → PrintsAlike p
alike p is one text trace o read =
    subst (λ r. ReplayShows r trace o ↔ (o ≡ plain_output r trace)) (sym read) (traced p (trace_read trace) o is one)
