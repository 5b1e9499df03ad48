use Rattle.std.proofs.Common.{◌≡◌, ◌+◌, ◌<◌, ◌≤◌, length}
use Rattle.sts_text.specs.Words.{lines}
use Rattle.sts_asm.specs.Outline.{empty, lines_read, size_of}
use Rattle.sts_asm.proofs.text.read_text.Given as goal

abbrev pub invariant-loop-line : goal.invariant-loop-line
invariant-loop-line l = record {
  read : lines_read l.at l.outline (lines l.rest) ≡ lines_read 1 empty (lines l.text);
  number : l.at + length (lines l.rest) ≡ length (lines l.text) + 1;
  count : l.at + length l.rest ≤ length l.text + 1;
  size : size_of l.outline < l.at;
}

abbrev pub decreases-loop-line : goal.decreases-loop-line
decreases-loop-line l = length l.rest
