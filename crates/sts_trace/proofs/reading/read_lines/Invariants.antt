use Rattle.std.proofs.Common.{◌≡◌, ◌+◌, ◌≤◌, length}
use Rattle.sts_text.specs.Words.{lines}
use Rattle.sts_trace.specs.Reading.{lines_read}
use Rattle.sts_trace.proofs.Lines.{with_front}
use Rattle.sts_trace.proofs.reading.read_lines.Given as goal

-- what was read, with what is read of the rest, is what is read of the text; each line has taken a
-- byte
abbrev pub invariant-loop-line : goal.invariant-loop-line
invariant-loop-line g l = record {
  read : with_front l.read.items (lines_read g.L.Line.said l.at (lines l.rest)) ≡ lines_read g.L.Line.said 1 (lines l.text);
  count : l.at + length l.rest ≤ length l.text + 1;
}

abbrev pub decreases-loop-line : goal.decreases-loop-line
decreases-loop-line g l = length l.rest
