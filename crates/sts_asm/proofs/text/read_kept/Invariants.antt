use Rattle.std.proofs.Common.{◌≡◌, ◌+◌, ◌<◌, ◌≤◌, length}
use Rattle.sts_text.specs.Words.{lines}
use Rattle.sts_asm.specs.Outline.{size_of}
use Rattle.sts_asm.proofs.TakenLemmas.{IsRead}
use Rattle.sts_asm.proofs.text.read_kept.Given as goal

abbrev pub invariant-loop-line : goal.invariant-loop-line
invariant-loop-line l = record {
  read : IsRead l.at l.outline l.all.items l.rest l.text;
  number : l.at + length (lines l.rest) ≡ length (lines l.text) + 1;
  count : l.at + length l.rest ≤ length l.text + 1;
  size : size_of l.outline < l.at;
  few : length l.all.items ≤ length l.outline.done;
}

abbrev pub decreases-loop-line : goal.decreases-loop-line
decreases-loop-line l = length l.rest
