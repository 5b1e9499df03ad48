use Rattle.sts_trace.proofs.outside.DueLine.first.Goals as goal

pub returns : goal.returns
returns c = record {
  line = c.in_ok-line.line.now;
  cut = c.in_ok-line.ensures.lines;
  says = c.due_line.ensures;
  shorter = c.in_ok-line.ensures.shorter;
}
