use Rattle.std.proofs.Common.{arith, ◌∙◌}
use Rattle.std.proofs.lemmas.Result.{err_from_is_err_and}
use Rattle.sts_text.specs.Words.{lines}
use Rattle.sts_trace.specs.Reading.{lines_read}
use Rattle.sts_trace.proofs.Lines.{line_fails, line_step, whole_read, rest_left, no_front}
use Rattle.sts_trace.proofs.reading.read_lines.Goals as goal

-- the first bad line of what is left is the text's first fault
pub returns-in_err-value : goal.returns-in_err-value
returns-in_err-value g c =
    let l = c.loop-line in
    let first = c.in-Some.ensures in
    let p = err_from_is_err_and c.from_residual.result c.from_residual.ensures.1 in
    rw (p.1, p.2, ← l.invariant.read) (line_fails g.L.Line.said l.read.items l.at l.rest.now first.line c.in-Some.after.now
    c.in_err-value.field-0.0 first.cut (rw c.in_err-value.was at first.says))

pub loop-line-init : goal.loop-line-init
loop-line-init g c = record {
  read = rw c.new-read.ensures.items (no_front (lines_read g.L.Line.said 1 (lines c.args.text.now)));
  count = omega arith;
}

pub loop-line-preserved : goal.loop-line-preserved
loop-line-preserved g c =
    let l = c.loop-line in
    let first = c.in-Some.ensures in
    record {
      read = rw c.in_ok-push.ensures.items (line_step g.L.Line.said l.read.items l.at l.rest.now first.line c.in-Some.after.now
          c.in_ok-value.value first.cut (rw c.in_ok-value.was at first.says) ∙ l.invariant.read);
      count = omega (arith, first.shorter, l.invariant.count);
    }

pub returns-then-is_empty : goal.returns-then-is_empty
returns-then-is_empty g c =
    let l = c.loop-line in
    whole_read g.L.Line.said l.read.items l.at l.rest.now _ l.invariant.read c.in_default.ensures c.if-is_empty.ensures

pub returns-else-is_empty : goal.returns-else-is_empty
returns-else-is_empty g c =
    let l = c.loop-line in
    rest_left g.L.Line.said l.read.items l.at l.rest.now _ l.invariant.read c.in_default.ensures c.if-is_empty.ensures

pub returns-in_err-push : goal.returns-in_err-push
returns-in_err-push g c =
    let p = err_from_is_err_and c.from_residual-in_err-push.result c.from_residual-in_err-push.ensures.1 in
    rw (p.1, p.2) tt
