use Rattle.sts_trace.specs.Reading.{bytes_of}
use Rattle.sts_trace.proofs.trace.EventLine.first.Goals as goal

pub returns : goal.returns
returns c = record {
  line = bytes_of c.in_ok-line.task c.in_ok-line.line.now;
  cut = c.in_ok-line.ensures.lines;
  says = c.event_in.ensures;
  shorter = c.in_ok-line.ensures.shorter;
}
