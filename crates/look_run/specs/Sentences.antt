-- What each fault of a trace says, in a sentence (this project's own).
use Rattle.std.specs.Prelude.{ℕ, List, codes}
use Rattle.sts_trace.specs.declared.error.TraceError.{TraceError}
use Rattle.sts_trace.specs.declared.error.TraceError.TheVariants as trace

-- what is wrong with a trace, T1 to T3
abbrev pub trace_sentence : TraceError → List ℕ
trace_sentence (trace.BadLine n) =
    codes "a line is step, interrupt or expire, one space and a number, and nothing else"
trace_sentence (trace.BadNumber n) =
    codes "a number from 0 to 4294967295, without leading zeros, must follow the space"
trace_sentence trace.NoNewline = codes "the last line must end with a newline"
trace_sentence trace.Memory = codes "out of memory"
