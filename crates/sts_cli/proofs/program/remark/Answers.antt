use Rattle.std.proofs.Common.{◌∙◌}
use Rattle.sts_cli.proofs.program.remark.Goals as goal

pub returns : goal.returns
returns c = λ none.
    rw (
      c.remark_came.ensures,
      ← c.note_trace.ensures.lines (c.take.ensures.value ∙ none),
      ← c.note_trace.ensures.program,
      ← c.outside_of-events.ensures c.note_trace.new.notes.program.now,
      ← c.fault-fault.ensures,
      ← c.as_slice.ensures.value,
      ← c.new-text.ensures.name,
      ← c.new-text.ensures.text,
    ) c.status.ensures.line
