use Rattle.std.proofs.Common.{take}
use Rattle.std.specs.Io.KnownBytes.{Appends}
use Rattle.sts_trace.specs.Spelling.{trace_text}
use Rattle.sts_trace.proofs.writing.write_trace.Given as goal

abbrev pub invariant-loop-event : goal.invariant-loop-event
invariant-loop-event g l = Appends (g.W.Write.contents l.fn.writer) (g.W.Write.contents l.writer) (trace_text (take l.event-index l.events))
